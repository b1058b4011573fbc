-- Events, by their codes, 1 to 7.
use Rattle.std.specs.Prelude.{ℕ, true, false, cond, ℤ, pos, negsuc, Ok, Err, Result, ◌==◌}
use Rattle.block.specs.declared.event.Event.{Event}
use Rattle.block.specs.declared.event.Event.TheVariants as event
use Rattle.block.specs.declared.refusal.Refusal.{Refusal}
use Rattle.block.specs.declared.refusal.Refusal.TheVariants as refusal
use Rattle.drive.specs.declared.direction.Direction.TheVariants.{Cw, Ccw}

-- the code of an event
abbrev pub code_of : Event → ℕ
code_of (event.Limit Cw true) = 1
code_of (event.Limit Cw false) = 2
code_of (event.Limit Ccw true) = 3
code_of (event.Limit Ccw false) = 4
code_of (event.EStop true) = 5
code_of (event.EStop false) = 6
code_of event.Trip = 7

-- the code is this event's: then it is the event; otherwise what else it is
abbrev pub or_event : ℕ → Event → Result Event Refusal → Result Event Refusal
or_event n e other = cond (n == code_of e) (Ok e) other

-- the event with this code, if there is one
abbrev pub event_of : ℤ → Result Event Refusal
event_of (negsuc n) = Err refusal.EventCode
event_of (pos n) =
    or_event n (event.Limit Cw true)
    (or_event n (event.Limit Cw false)
    (or_event n (event.Limit Ccw true)
    (or_event n (event.Limit Ccw false)
    (or_event n (event.EStop true)
    (or_event n (event.EStop false)
    (or_event n event.Trip
    (Err refusal.EventCode)))))))
