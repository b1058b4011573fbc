-- What an axis keeps of its own, beside its drive and its profile.
use Rattle.std.specs.Prelude.{ℕ, Bool, true, false}
use Rattle.table.specs.Tables.{TableMeans, table_means, emptied}
use Rattle.axis.specs.declared.flags.Flags.{Flags}
use Rattle.axis.specs.declared.flags.Levels.{Levels}
use Rattle.axis.specs.declared.flags.Pace.{Pace}
use Rattle.axis.specs.declared.memory.Memory.{Memory}
use Rattle.axis.specs.declared.state.State.{State}
use Rattle.axis.specs.declared.state.State.TheVariants.{Idle}

pub record MemoryMeans : Type 0 where
  pub table : TableMeans
  pub state : State
  -- word 0 of the last block that was kept
  pub kept : ℕ
  pub flags : Flags
  -- the levels of the limits and of the E-stop
  pub levels : Levels
  -- the last two advances of the plan
  pub pace : Pace

abbrev pub memory_means : Memory → MemoryMeans
memory_means k = record { table = table_means k.table; state = k.state; kept = k.kept; flags = k.flags; levels = k.levels; pace = k.pace }

-- the same, but for one part
abbrev pub with_table : MemoryMeans → TableMeans → MemoryMeans
with_table k t = record { table = t; state = k.state; kept = k.kept; flags = k.flags; levels = k.levels; pace = k.pace }

abbrev pub with_state : MemoryMeans → State → MemoryMeans
with_state k s = record { table = k.table; state = s; kept = k.kept; flags = k.flags; levels = k.levels; pace = k.pace }

abbrev pub with_kept : MemoryMeans → ℕ → MemoryMeans
with_kept k w = record { table = k.table; state = k.state; kept = w; flags = k.flags; levels = k.levels; pace = k.pace }

abbrev pub with_flags : MemoryMeans → Flags → MemoryMeans
with_flags k f = record { table = k.table; state = k.state; kept = k.kept; flags = f; levels = k.levels; pace = k.pace }

abbrev pub with_levels : MemoryMeans → Levels → MemoryMeans
with_levels k l = record { table = k.table; state = k.state; kept = k.kept; flags = k.flags; levels = l; pace = k.pace }

abbrev pub with_pace : MemoryMeans → Pace → MemoryMeans
with_pace k q = record { table = k.table; state = k.state; kept = k.kept; flags = k.flags; levels = k.levels; pace = q }

-- one flag set or cleared
abbrev pub with_configuration : Flags → Bool → Flags
with_configuration f b = record { configuration = b; command = f.command; input = f.input; invalid = f.invalid; complete = f.complete }

abbrev pub with_command : Flags → Bool → Flags
with_command f b = record { configuration = f.configuration; command = b; input = f.input; invalid = f.invalid; complete = f.complete }

abbrev pub with_input : Flags → Bool → Flags
with_input f b = record { configuration = f.configuration; command = f.command; input = b; invalid = f.invalid; complete = f.complete }

abbrev pub with_invalid : Flags → Bool → Flags
with_invalid f b = record { configuration = f.configuration; command = f.command; input = f.input; invalid = b; complete = f.complete }

abbrev pub with_complete : Flags → Bool → Flags
with_complete f b = record { configuration = f.configuration; command = f.command; input = f.input; invalid = f.invalid; complete = b }

-- no advance of the plan yet
abbrev pub no_pace : Pace
no_pace = record { last = 0; before = 0 }

-- At power-up the axis is idle, the kept word is 0, levels are off and the table is empty; Configuration_Error and
-- Position_Invalid are set. The starting speed is 1 until a set-up gives one: nothing that uses it is allowed before.
abbrev pub first_memory : MemoryMeans
first_memory =
    record {
      table = emptied 1;
      state = Idle;
      kept = 0;
      flags = record { configuration = true; command = false; input = false; invalid = true; complete = false };
      levels = record { limits = record { cw = false; ccw = false }; estop = false };
      pace = no_pace;
    }
