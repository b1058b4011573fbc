-- What holds of every ramp.
use Rattle.std.specs.Prelude.{◌≤◌}
use Rattle.std.proofs.Common.{arith}
use Rattle.profile.specs.Plans.{plan_of}
use Rattle.profile.specs.PlanLaws.{lawful_of, top_bound}
use Rattle.ramp.specs.declared.ramp.Ramp.{Ramp}

-- no advance was above the greatest speed that a row may have
pub last_bound : (a : Ramp) → a.last ≤ 200000
last_bound a = omega (arith, a.slow, top_bound (plan_of a.progress.plan) (lawful_of a.progress.plan))
