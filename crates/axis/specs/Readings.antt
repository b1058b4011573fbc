-- What a reading tells of the axis: ten words, of which the last six are 0.
use Rattle.std.specs.Prelude.{◌≡◌, ℕ, ◌+◌, ◌^◌, Bool, true, false, cond, not, ◌&&◌, List, [], ◌∷◌, ◌++◌, drop, get_or, length, ℤ, pos, Ok, Err, Result, nat_lt}
use Rattle.drive.specs.declared.direction.Direction.{Direction}
use Rattle.drive.specs.declared.direction.Direction.TheVariants.{Cw, Ccw}
use Rattle.block.specs.Commands.{bit_of}
use Rattle.block.specs.Pairs.{thousands, over}
use Rattle.block.specs.Words.{is_set}
use Rattle.block.specs.declared.command.Command.TheVariants as command
use Rattle.block.specs.declared.refusal.Refusal.{Refusal}
use Rattle.block.specs.declared.refusal.Refusal.TheVariants as refusal
use Rattle.table.specs.Tables.{has_room}
use Rattle.axis.specs.Axes.{AxisMeans}
use Rattle.axis.specs.Questions.{programs, is_held}
use Rattle.axis.specs.Memories.{MemoryMeans}
use Rattle.axis.specs.declared.state.State.{State}
use Rattle.axis.specs.declared.state.State.TheVariants.{Idle, Programming, Running, Pausing, Holding, Held}

-- what bit k adds to a word, where it is on
abbrev pub flag : ℕ → Bool → ℕ
flag k on = cond on (2 ^ k) 0

-- in motion: running outside a pause, or holding
abbrev pub is_moving : State → Bool
is_moving Idle = false
is_moving Programming = false
is_moving (Running travel) = true
is_moving (Pausing next ticks) = false
is_moving (Holding travel) = true
is_moving (Held target) = false

-- two directions are the same
abbrev pub is_same : Direction → Direction → Bool
is_same Cw Cw = true
is_same Cw Ccw = false
is_same Ccw Cw = false
is_same Ccw Ccw = true

-- in motion in a direction: that of the row under way
abbrev pub moves : Direction → State → Bool
moves way Idle = false
moves way Programming = false
moves way (Running travel) = is_same way travel.direction
moves way (Pausing next ticks) = false
moves way (Holding travel) = is_same way travel.direction
moves way (Held target) = false

-- in motion, with the last advance above the one before
abbrev pub accelerates : MemoryMeans → Bool
accelerates k = is_moving k.state && nat_lt k.pace.before k.pace.last

-- in motion, with the last advance below the one before
abbrev pub decelerates : MemoryMeans → Bool
decelerates k = is_moving k.state && nat_lt k.pace.last k.pace.before

-- waiting for a row: programming with room for one, and the bit of Segment clear in the kept word
abbrev pub waits : MemoryMeans → Bool
waits k = programs k.state && (has_room k.table && not (is_set (bit_of command.Segment) k.kept))

-- Word 0: always; Configuration_Error, Command_Error, Input_Error and Position_Invalid; Waiting and Programming; Move_Complete;
-- Decelerating and Accelerating; Stopped and Held; moving counterclockwise and clockwise.
abbrev pub status_of : AxisMeans → ℕ
status_of m =
    flag 14 true
    + flag 13 m.memory.flags.configuration
    + flag 12 m.memory.flags.command
    + flag 11 m.memory.flags.input
    + flag 10 m.memory.flags.invalid
    + flag 9 (waits m.memory)
    + flag 8 (programs m.memory.state)
    + flag 7 m.memory.flags.complete
    + flag 6 (decelerates m.memory)
    + flag 5 (accelerates m.memory)
    + flag 3 (not (is_moving m.memory.state))
    + flag 2 (is_held m.memory.state)
    + flag 1 (moves Ccw m.memory.state)
    + flag 0 (moves Cw m.memory.state)

-- word 1: tripped, and the levels of the E-stop, the CCW limit and the CW limit
abbrev pub inputs_of : AxisMeans → ℕ
inputs_of m = flag 7 m.drive.tripped + flag 2 m.memory.levels.estop + flag 1 m.memory.levels.limits.ccw + flag 0 m.memory.levels.limits.cw

-- the flags of word 0 by their bits, from bit 0
abbrev pub status_bits : AxisMeans → List Bool
status_bits m =
    moves Cw m.memory.state
    ∷ moves Ccw m.memory.state
    ∷ is_held m.memory.state
    ∷ not (is_moving m.memory.state)
    ∷ false
    ∷ accelerates m.memory
    ∷ decelerates m.memory
    ∷ m.memory.flags.complete
    ∷ programs m.memory.state
    ∷ waits m.memory
    ∷ m.memory.flags.invalid
    ∷ m.memory.flags.input
    ∷ m.memory.flags.command
    ∷ m.memory.flags.configuration
    ∷ true
    ∷ []

-- the flags of word 1 by their bits, from bit 0
abbrev pub input_bits : AxisMeans → List Bool
input_bits m =
    m.memory.levels.limits.cw
    ∷ m.memory.levels.limits.ccw
    ∷ m.memory.levels.estop
    ∷ false
    ∷ false
    ∷ false
    ∷ false
    ∷ m.drive.tripped
    ∷ []

-- What the two words say bit by bit: each bit is its flag, and those past the flags are 0.
pub record BitsSay (m : AxisMeans) : Type 0 where
  pub status : (k : ℕ) → is_set k (status_of m) ≡ get_or (status_bits m) k false
  pub inputs : (k : ℕ) → is_set k (inputs_of m) ≡ get_or (input_bits m) k false

-- the status, the inputs, the pair of the position, and six words that are 0
abbrev pub status_words : AxisMeans → List ℤ
status_words m =
    pos (status_of m)
    ∷ pos (inputs_of m)
    ∷ thousands m.drive.place
    ∷ over m.drive.place
    ∷ pos 0
    ∷ pos 0
    ∷ pos 0
    ∷ pos 0
    ∷ pos 0
    ∷ pos 0
    ∷ []

-- a buffer that is too short for the ten words
abbrev pub is_short : List ℤ → Bool
is_short ws = nat_lt (length ws) 10

-- it is refused, and any other is not
abbrev pub reading_answer : List ℤ → Result (Unit {0}) Refusal
reading_answer ws = cond (is_short ws) (Err refusal.ShortBuffer) (Ok tt)

-- a buffer with ten words or more has these ten first, and its words past the tenth stay; a shorter one stays as it is
abbrev pub filled : List ℤ → List ℤ → List ℤ
filled words buffer = cond (is_short buffer) buffer (words ++ drop 10 buffer)
