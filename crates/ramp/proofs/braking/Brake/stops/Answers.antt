use Rattle.std.proofs.Common.{arith}
use Rattle.ramp.specs.BrakingLaws.{braking_small}
use Rattle.ramp.proofs.braking.Brake.stops.Goals as goal

pub overflow_add-result : goal.overflow_add-result
overflow_add-result c = grind (arith, braking_small c.args.self.start c.args.self.decel c.args.speed 4294967295)
