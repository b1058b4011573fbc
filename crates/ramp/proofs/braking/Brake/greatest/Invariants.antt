use Rattle.ramp.proofs.Halving.{Between}
use Rattle.ramp.proofs.braking.Brake.greatest.Given as goal

abbrev pub invariant-loop-turn : goal.invariant-loop-turn
invariant-loop-turn l = Between l.self.start l.self.decel l.limit l.rest l.low l.high l._turn
