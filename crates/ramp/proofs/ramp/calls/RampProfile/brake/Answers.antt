use Rattle.std.proofs.Common.{arith}
use Rattle.ramp.specs.RampLaws.{brakes_of}
use Rattle.ramp.proofs.ramp.calls.RampProfile.brake.Goals as goal

pub returns-in-Some-clause-braked : goal.returns-in-Some-clause-braked
returns-in-Some-clause-braked c =
    let a = c.args.self.now in
    let m = a.progress in
    grind (arith, brakes_of m.plan m.asked m.gone a.last m.within a.slow a.stops)
