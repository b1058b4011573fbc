use Rattle.ramp.specs.BrakingLaws.{braking_rule}
use Rattle.ramp.proofs.braking.braking_distance.Goals as goal

pub returns-clause-rule : goal.returns-clause-rule
returns-clause-rule c = braking_rule _ _ c.args.plan.now.slows.0
