-- What a line of a call script says, by its words. Words are taken from left to right, and the first fault counts:
-- a word that is missing, one that does not fit its place, and at last one too many.
use Rattle.std.specs.Prelude.{ℕ, List, [], ◌∷◌, ℤ, Ok, Err, Result}
use Rattle.text.specs.Texts.{uncommented, words_of}
use Rattle.bed.specs.Beds.{bed_of}
use Rattle.bed.specs.Words.{integer, natural, short, making, complete, only}
use Rattle.bed.specs.declared.fault.LineFault.{LineFault}
use Rattle.bed.specs.declared.kind.BedKind.{BedKind}
use Rattle.script.specs.Commands.{command_word}
use Rattle.script.specs.declared.command.Command.{Command}
use Rattle.script.specs.declared.command.Command.TheVariants as command

-- what a line says: nothing, what the bed is and how it stands at first, or a call of the axis
pub data LineMeans : Type 0 where
  Blank : LineMeans
  Bed : BedKind → LineMeans
  At : ℤ → LineMeans
  Tripped : LineMeans
  Setup : ℤ → LineMeans
  Block : List ℤ → LineMeans
  Event : ℤ → LineMeans
  Tick : ℕ → LineMeans
  Reading : ℕ → LineMeans

-- how many: as a word says, or so many where none does
abbrev pub count_of : ℕ → List (List ℕ) → Result ℕ LineFault
count_of unsaid [] = Ok unsaid
count_of unsaid (w ∷ ws) = only natural (w ∷ ws)

-- the 16-bit words of a block, one to a word
abbrev pub block_words : List (List ℕ) → Result (List ℤ) LineFault
block_words [] = Ok []
block_words (w ∷ ws) = elim (short w) [ Ok v ↦ making (λ vs. v ∷ vs) (block_words ws) | Err e ↦ Err e ]

-- a command with the words after it; `tick` alone is one tick, and `reading` alone a reading into a buffer of ten words
abbrev pub command_said : Command → List (List ℕ) → Result LineMeans LineFault
command_said command.Bed ws = making Bed (bed_of ws)
command_said command.At ws = making At (only integer ws)
command_said command.Tripped ws = complete Tripped ws
command_said command.Setup ws = making Setup (only integer ws)
command_said command.Block ws = making Block (block_words ws)
command_said command.Event ws = making Event (only integer ws)
command_said command.Tick ws = making Tick (count_of 1 ws)
command_said command.Reading ws = making Reading (count_of 10 ws)

-- the same, by the word that names the command
abbrev pub command_of : List ℕ → List (List ℕ) → Result LineMeans LineFault
command_of w ws = elim (command_word w) [ Ok c ↦ command_said c ws | Err e ↦ Err e ]

-- what the words of a line say; a line without words says nothing
abbrev pub words_said : List (List ℕ) → Result LineMeans LineFault
words_said [] = Ok Blank
words_said (w ∷ ws) = command_of w ws

-- what a line says, comment and all
abbrev pub line_said : List ℕ → Result LineMeans LineFault
line_said text = words_said (words_of (uncommented text))
