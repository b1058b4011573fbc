use Rattle.std.proofs.Common.{◌≡◌, ◌+◌}
use Rattle.ramp.specs.Places.{IsPlace}
use Rattle.ramp.proofs.place.Place.speed_after.Given as goal

abbrev pub invariant-loop-i : goal.invariant-loop-i
invariant-loop-i l =
    record { stays : l.self.passed ≡ l.initial.self.passed; here : IsPlace l.rows l.gone (record { passed = l.self.passed + l.i; before = l.self.before }) }
