-- The commands of a call script, by their names.
use Rattle.std.specs.Prelude.{ℕ, cond, List, Ok, Err, codes, Result}
use Rattle.std.specs.Str.{bytes_eq}
use Rattle.bed.specs.declared.fault.LineFault.{LineFault}
use Rattle.bed.specs.declared.fault.LineFault.TheVariants.{UnknownCommand}
use Rattle.script.specs.declared.command.Command.{Command}
use Rattle.script.specs.declared.command.Command.TheVariants.{Bed, At, Tripped, Setup, Block, Event, Tick, Reading}

-- the command that a word names
abbrev pub command_word : List ℕ → Result Command LineFault
command_word w =
    cond (bytes_eq w (codes "bed")) (Ok Bed)
    (cond (bytes_eq w (codes "at")) (Ok At)
    (cond (bytes_eq w (codes "tripped")) (Ok Tripped)
    (cond (bytes_eq w (codes "setup")) (Ok Setup)
    (cond (bytes_eq w (codes "block")) (Ok Block)
    (cond (bytes_eq w (codes "event")) (Ok Event)
    (cond (bytes_eq w (codes "tick")) (Ok Tick)
    (cond (bytes_eq w (codes "reading")) (Ok Reading)
    (Err UnknownCommand))))))))
