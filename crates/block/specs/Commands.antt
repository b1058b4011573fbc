-- The command that a block gives, by the bits of word 0 that rise.
use Rattle.std.specs.Prelude.{ℕ, ◌^◌, cond, Some, None, Ok, Err, Option, Result, ◌==◌}
use Rattle.block.specs.declared.command.Command.{Command}
use Rattle.block.specs.declared.command.Command.TheVariants as command
use Rattle.block.specs.declared.refusal.Refusal.{Refusal}
use Rattle.block.specs.declared.refusal.Refusal.TheVariants as refusal

-- the bit of a command
abbrev pub bit_of : Command → ℕ
bit_of command.Absolute = 0
bit_of command.Relative = 1
bit_of command.Hold = 2
bit_of command.Resume = 3
bit_of command.Stop = 4
bit_of command.Preset = 9
bit_of command.Reset = 10
bit_of command.Program = 11
bit_of command.Segment = 12
bit_of command.Run = 13

-- only this command's bit rises: then it is the command; otherwise what else it is
abbrev pub or_command : ℕ → Command → Result (Option Command) Refusal → Result (Option Command) Refusal
or_command r c other = cond (r == 2 ^ bit_of c) (Ok (Some c)) other

-- none where no bit rises, the one whose bit alone rises, and otherwise a refusal
abbrev pub commanded : ℕ → Result (Option Command) Refusal
commanded r =
    cond (r == 0) (Ok None)
    (or_command r command.Absolute
    (or_command r command.Relative
    (or_command r command.Hold
    (or_command r command.Resume
    (or_command r command.Stop
    (or_command r command.Preset
    (or_command r command.Reset
    (or_command r command.Program
    (or_command r command.Segment
    (or_command r command.Run
    (Err refusal.SeveralCommands)))))))))))
