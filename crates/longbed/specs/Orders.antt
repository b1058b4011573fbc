-- The order of a script's lines: the bed first and once, then how its drive stands at first, then the calls.
use Rattle.std.specs.Prelude.{true, false, cond, ℤ, pos, Ok, Err, Result}
use Rattle.drive.specs.Positions.{is_position}
use Rattle.script.specs.Lines.{LineMeans, Blank, Bed, At, Tripped, Setup, Block, Event, Tick, Reading}
use Rattle.bed.specs.declared.kind.BedKind.{BedKind}
use Rattle.longbed.specs.declared.order.OrderFault.{OrderFault}
use Rattle.longbed.specs.declared.order.OrderFault.TheVariants.{NoBed, SecondBed, TooLate, NoPosition}
use Rattle.longbed.specs.declared.order.Stage.{Stage}
use Rattle.longbed.specs.declared.order.Stage.TheVariants.{Unnamed, Preparing, Calling}
use Rattle.longbed.specs.declared.order.Start.{Start}

-- a bed whose drive stands at 0, not tripped
abbrev pub start_on : BedKind → Start
start_on bed = record { bed = bed; place = pos 0; tripped = false }

-- the same bed, with its drive at a position
abbrev pub start_at : Start → ℤ → Result Stage OrderFault
start_at s p = cond (is_position p) (Ok (Preparing (record { bed = s.bed; place = p; tripped = s.tripped }))) (Err NoPosition)

-- the same bed, with its drive tripped
abbrev pub start_tripped : Start → Start
start_tripped s = record { bed = s.bed; place = s.place; tripped = true }

-- before the bed is named, nothing else may stand
abbrev pub after_unnamed : LineMeans → Result Stage OrderFault
after_unnamed Blank = Ok Unnamed
after_unnamed (Bed bed) = Ok (Preparing (start_on bed))
after_unnamed (At p) = Err NoBed
after_unnamed Tripped = Err NoBed
after_unnamed (Setup v) = Err NoBed
after_unnamed (Block ws) = Err NoBed
after_unnamed (Event e) = Err NoBed
after_unnamed (Tick n) = Err NoBed
after_unnamed (Reading n) = Err NoBed

-- before the first call, the last `at` counts
abbrev pub after_preparing : Start → LineMeans → Result Stage OrderFault
after_preparing s Blank = Ok (Preparing s)
after_preparing s (Bed bed) = Err SecondBed
after_preparing s (At p) = start_at s p
after_preparing s Tripped = Ok (Preparing (start_tripped s))
after_preparing s (Setup v) = Ok (Calling s)
after_preparing s (Block ws) = Ok (Calling s)
after_preparing s (Event e) = Ok (Calling s)
after_preparing s (Tick n) = Ok (Calling s)
after_preparing s (Reading n) = Ok (Calling s)

-- from the first call on, only calls
abbrev pub after_calling : Start → LineMeans → Result Stage OrderFault
after_calling s Blank = Ok (Calling s)
after_calling s (Bed bed) = Err SecondBed
after_calling s (At p) = Err TooLate
after_calling s Tripped = Err TooLate
after_calling s (Setup v) = Ok (Calling s)
after_calling s (Block ws) = Ok (Calling s)
after_calling s (Event e) = Ok (Calling s)
after_calling s (Tick n) = Ok (Calling s)
after_calling s (Reading n) = Ok (Calling s)

-- what a line makes of a stage, or why it cannot stand there
abbrev pub stage_after : Stage → LineMeans → Result Stage OrderFault
stage_after Unnamed m = after_unnamed m
stage_after (Preparing s) m = after_preparing s m
stage_after (Calling s) m = after_calling s m
