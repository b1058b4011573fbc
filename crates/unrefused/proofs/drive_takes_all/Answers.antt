use Rattle.std.proofs.Common.{refl}
use Rattle.unrefused.proofs.Fitness.{drives_take_all}
use Rattle.unrefused.proofs.drive_takes_all.Goals as goal

pub returns : goal.returns
returns c = record { taken = drives_take_all; answer = refl }
