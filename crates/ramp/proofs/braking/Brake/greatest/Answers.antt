use Rattle.std.proofs.Common.{◌+◌, arith}
use Rattle.std.proofs.lemmas.Grind.{common_steps}
use Rattle.ramp.proofs.Halving.{between_first, between_up, between_down}
use Rattle.ramp.proofs.braking.Brake.greatest.Goals as goal
use Rattle.ramp.proofs.braking.Brake.greatest.Goals.{then-stops-2, else-stops-2}

pub loop-turn-init : goal.loop-turn-init
loop-turn-init c = between_first _ _ _ _ c.requires

pub loop-turn-preserved : goal.loop-turn-preserved
loop-turn-preserved c =
    let l = c.loop-turn in
    let m = l.low + c.div_ceil.result in
    let s = c.args.self in
    elim c.if-stops-2.branch [
      | then-stops-2 w ↦
          simp (w.low-is, w.high-is)
          (between_up s.start s.decel c.args.limit c.args.rest l.low l.high l._turn l.invariant c.loop-turn-test.true m
          (grind (arith, common_steps)) (grind (arith, common_steps)) (grind (arith, common_steps)) (grind arith))
      | else-stops-2 w ↦
          simp (w.low-is, w.high-is)
          (between_down s.start s.decel c.args.limit c.args.rest l.low l.high l._turn l.invariant c.loop-turn-test.true m
          (grind (arith, common_steps)) (grind (arith, common_steps)) (grind (arith, common_steps)) s.slows (grind arith))
    ]
