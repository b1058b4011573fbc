use Rattle.std.proofs.Common.{arith}
use Rattle.std.proofs.lemmas.Grind.{common_steps}
use Rattle.ramp.specs.BrakingLaws.{braking_low}
use Rattle.ramp.specs.SpeedLaws.{steps_sum}
use Rattle.ramp.proofs.ramp.Ramp.new.Goals as goal

pub invariant_of-result : goal.invariant_of-result
invariant_of-result c = grind (arith, common_steps, braking_low, steps_sum)
