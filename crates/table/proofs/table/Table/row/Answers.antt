use Rattle.std.proofs.Common.{arith}
use Rattle.std.proofs.lemmas.Option.{gets}
use Rattle.std.proofs.lemmas.Grind.{common_steps}
use Rattle.std.proofs.lemmas.List.{get_or_past}
use Rattle.table.proofs.table.Table.row.Goals as goal

pub returns : goal.returns
returns c = grind (arith, common_steps, gets, get_or_past)
