-- A set-up gives the starting speed. It is refused outside Idle, which changes nothing, and then where the speed is not 1 to
-- 1000 times the drive's reach, which sets Configuration_Error and empties the table.
use Rattle.std.specs.Prelude.{ℕ, ◌*◌, Bool, true, false, cond, ℤ, pos, Ok, Result, unsigned_abs}
use Rattle.block.specs.declared.refusal.Refusal.{Refusal}
use Rattle.block.specs.declared.refusal.Refusal.TheVariants as refusal
use Rattle.table.specs.Tables.{emptied}
use Rattle.axis.specs.Axes.{AxisMeans, with_memory}
use Rattle.axis.specs.Judging.{asked}
use Rattle.axis.specs.Questions.{in_range}
use Rattle.axis.specs.Memories.{MemoryMeans, with_table, with_flags, with_configuration, with_invalid}
use Rattle.axis.specs.declared.state.State.{State}
use Rattle.axis.specs.declared.state.State.TheVariants.{Idle, Programming, Running, Pausing, Holding, Held}

-- Idle
abbrev pub is_idle : State → Bool
is_idle Idle = true
is_idle Programming = false
is_idle (Running travel) = false
is_idle (Pausing next ticks) = false
is_idle (Holding travel) = false
is_idle (Held target) = false

-- a starting speed from 1 to 1000 times the drive's reach
abbrev pub start_fits : ℕ → ℤ → Bool
start_fits g n = in_range (pos 1) (pos (1000 * g)) n

-- what it answers: the state is asked first
abbrev pub setup_answer : ℕ → AxisMeans → ℤ → Result (Unit {0}) Refusal
setup_answer g m n = asked (is_idle m.memory.state) refusal.State (asked (start_fits g n) refusal.StartSpeed (Ok tt))

-- accepted: the new starting speed, an empty table, and a position that is invalid
abbrev pub configured : MemoryMeans → ℕ → MemoryMeans
configured k S = with_table (with_flags k (with_invalid (with_configuration k.flags false) true)) (emptied S)

-- refused for the speed: the former one stays, with an empty table and Configuration_Error
abbrev pub misconfigured : MemoryMeans → MemoryMeans
misconfigured k = with_table (with_flags k (with_configuration k.flags true)) (emptied k.table.start)

-- what it makes of the axis
abbrev pub setup_after : ℕ → AxisMeans → ℤ → AxisMeans
setup_after g m n =
    with_memory m
    (cond (is_idle m.memory.state) (cond (start_fits g n) (configured m.memory (unsigned_abs n)) (misconfigured m.memory)) m.memory)
