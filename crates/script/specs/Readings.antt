-- What the reading of a line answers. Want of memory says nothing of the line.
use Rattle.std.specs.Prelude.{◌≡◌, Ok, Err, vec_items, Result}
use Rattle.script.specs.Lines.{LineMeans, Blank, Bed, At, Tripped, Setup, Block, Event, Tick, Reading}
use Rattle.bed.specs.declared.fault.LineFault.{LineFault}
use Rattle.script.specs.declared.fault.ReadFault.{ReadFault}
use Rattle.script.specs.declared.fault.ReadFault.TheVariants as fault
use Rattle.script.specs.declared.line.Line.{Line}
use Rattle.script.specs.declared.line.Line.TheVariants as line

abbrev pub line_means : Line → LineMeans
line_means line.Blank = Blank
line_means (line.Bed bed) = Bed bed
line_means (line.At place) = At place
line_means line.Tripped = Tripped
line_means (line.Setup speed) = Setup speed
line_means (line.Block words) = Block (vec_items words)
line_means (line.Event code) = Event code
line_means (line.Tick count) = Tick count
line_means (line.Reading count) = Reading count

-- what was read means exactly what is to be read, and a fault is exactly the fault of that
abbrev pub Read : {A B : Type 0} → (A → B) → Result B LineFault → Result A ReadFault → Type 0
Read means told (Ok a) = told ≡ Ok (means a)
Read means told (Err (fault.Line e)) = told ≡ Err e
Read means told (Err fault.NoMemory) = Unit {0}
