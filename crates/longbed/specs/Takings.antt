-- What the text of a line makes of a stage of its script.
use Rattle.std.specs.Prelude.{◌≡◌, Ok, Err, Result}
use Rattle.script.specs.Lines.{LineMeans}
use Rattle.script.specs.Readings.{line_means}
use Rattle.bed.specs.declared.fault.LineFault.{LineFault}
use Rattle.script.specs.declared.fault.ReadFault.TheVariants as fault
use Rattle.script.specs.declared.line.Line.{Line}
use Rattle.longbed.specs.Orders.{stage_after}
use Rattle.longbed.specs.declared.order.Stage.{Stage}
use Rattle.longbed.specs.declared.unread.Unread.{Unread}
use Rattle.longbed.specs.declared.unread.Unread.TheVariants.{Text, Order}

-- the stage after the line, or what is wrong with its words, or why it cannot stand there; want of memory says nothing of it
abbrev pub Taken : Stage → Result LineMeans LineFault → Result (Stage × Line) Unread → Type 0
Taken s told (Ok r) = (told ≡ Ok (line_means r.1)) × (stage_after s (line_means r.1) ≡ Ok r.0)
Taken s told (Err (Text (fault.Line e))) = told ≡ Err e
Taken s told (Err (Text fault.NoMemory)) = Unit {0}
Taken s told (Err (Order why)) = (m : LineMeans) × (told ≡ Ok m) × (stage_after s m ≡ Err why)
