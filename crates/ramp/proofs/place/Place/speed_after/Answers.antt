use Rattle.std.proofs.Common.{◌≡◌, ◌+◌, arith}
use Rattle.std.proofs.lemmas.Grind.{common_steps}
use Rattle.ramp.specs.SpeedLaws.{steps_sum, speed_here}
use Rattle.ramp.proofs.place.Place.speed_after.Goals as goal

pub returns-then-gone-end-clause-speed : goal.returns-then-gone-end-clause-speed
returns-then-gone-end-clause-speed c = grind (arith, common_steps, speed_here c.args.rows.now (c.loop-i.self.passed + c.loop-i.i) c.args.gone)

pub loop-i-preserved : goal.loop-i-preserved
loop-i-preserved c =
    let on : c.loop-i.self.passed + (c.loop-i.i + 1) ≡ (c.loop-i.self.passed + c.loop-i.i) + 1 = omega arith in
    rw on (grind (arith, common_steps, steps_sum))
