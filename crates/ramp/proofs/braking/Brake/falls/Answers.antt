use Rattle.std.proofs.Common.{rules}
use Rattle.ramp.proofs.BrakingForm.{in_falls}
use Rattle.ramp.proofs.braking.Brake.falls.Goals as goal

pub returns-clause-sum : goal.returns-clause-sum
returns-clause-sum c = in_falls c.args.self.start c.args.self.decel c.args.self.slows c.args.speed _ (search rules)
