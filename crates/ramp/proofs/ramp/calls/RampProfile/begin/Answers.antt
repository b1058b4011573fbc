use Rattle.std.proofs.Common.{refl, arith}
use Rattle.std.proofs.lemmas.Grind.{common_steps}
use Rattle.profile.specs.Plans.{plan_means}
use Rattle.profile.specs.PlanLaws.{lawful}
use Rattle.ramp.specs.BrakingLaws.{braking_low}
use Rattle.ramp.specs.RampLaws.{begins}
use Rattle.ramp.specs.Ramps.{ramp_means}
use Rattle.ramp.specs.SpeedLaws.{steps_sum}
use Rattle.ramp.proofs.ramp.calls.RampProfile.begin.Goals as goal

pub invariant_of-self : goal.invariant_of-self
invariant_of-self c = grind (arith, common_steps, braking_low, steps_sum)

pub returns-clause-begun : goal.returns-clause-begun
returns-clause-begun c = grind (arith, begins (plan_means c.args.plan) (lawful c.args.plan) (ramp_means c.args.self.now) refl)
