-- How the axis comes to rest. What this means for a whole move, that it ends exactly where it was sent and only so, is the law of runs.
use Rattle.std.specs.Prelude.{◌+◌, ◌-◌, Bool, true, cond, length, ℤ, ◌==◌, nat_lt}
use Rattle.drive.specs.Positions.{distance}
use Rattle.table.specs.Tables.{TableMeans, emptied}
use Rattle.axis.specs.Memories.{MemoryMeans, with_state, with_flags, with_table, with_input, with_invalid, with_complete}
use Rattle.axis.specs.declared.order.DwellRow.{DwellRow}
use Rattle.axis.specs.declared.state.Kind.{Kind}
use Rattle.axis.specs.declared.state.Kind.TheVariants.{Single, Blend, Dwell}
use Rattle.axis.specs.declared.state.State.{State}
use Rattle.axis.specs.declared.state.State.TheVariants.{Idle, Programming, Running, Pausing, Holding, Held}
use Rattle.axis.specs.declared.state.Travel.{Travel}

-- in Programming a full stop empties the table
abbrev pub table_stopped : State → TableMeans → TableMeans
table_stopped Idle t = t
table_stopped Programming t = emptied t.start
table_stopped (Running travel) t = t
table_stopped (Pausing next ticks) t = t
table_stopped (Holding travel) t = t
table_stopped (Held target) t = t

-- a full stop: idle, with the position invalid
abbrev pub stopped : MemoryMeans → MemoryMeans
stopped k = with_table (with_state (with_flags k (with_invalid k.flags true)) Idle) (table_stopped k.state k.table)

-- the end of a move: idle, with Move_Complete
abbrev pub completed : MemoryMeans → MemoryMeans
completed k = with_state (with_flags k (with_complete k.flags true)) Idle

-- the end of holding, with the drive at a place: a single move with steps unsent is held, one without is complete, and a blend or a dwell
-- move is over
abbrev pub rested : MemoryMeans → ℤ → Kind → MemoryMeans
rested k place (Single target) = cond (distance place target == 0) (completed k) (with_state k (Held target))
rested k place Blend = with_state k Idle
rested k place (Dwell row) = with_state k Idle

-- holding goes on, or ends as soon as nothing is left
abbrev pub eased : MemoryMeans → Bool → ℤ → Travel → MemoryMeans
eased k over place travel = cond over (rested k place travel.kind) (with_state k (Holding travel))

-- the next row of a run
abbrev pub row_after : DwellRow → DwellRow
row_after row = record { run = row.run; index = row.index + 1 }

-- the end of a plan: a dwell move with another row pauses, any other move is complete
abbrev pub plan_ended : MemoryMeans → Kind → MemoryMeans
plan_ended k (Single target) = completed k
plan_ended k Blend = completed k
plan_ended k (Dwell row) =
    cond (nat_lt (row.index + 1) (length k.table.rows)) (with_state k (Pausing (row_after row) row.run.dwell)) (completed k)

-- running goes on until nothing is left
abbrev pub arrived : MemoryMeans → Bool → Travel → MemoryMeans
arrived k over travel = cond over (plan_ended k travel.kind) (with_state k (Running travel))

-- a tick of a pause: one tick less to wait
abbrev pub less_waited : State → State
less_waited Idle = Idle
less_waited Programming = Programming
less_waited (Running travel) = Running travel
less_waited (Pausing next ticks) = Pausing next (ticks - 1)
less_waited (Holding travel) = Holding travel
less_waited (Held target) = Held target

abbrev pub waited : MemoryMeans → MemoryMeans
waited k = with_state k (less_waited k.state)

-- what moves goes on, with the drive at a place
abbrev pub kept_going : State → MemoryMeans → Bool → ℤ → MemoryMeans
kept_going Idle k over place = k
kept_going Programming k over place = k
kept_going (Running travel) k over place = arrived k over travel
kept_going (Pausing next ticks) k over place = k
kept_going (Holding travel) k over place = eased k over place travel
kept_going (Held target) k over place = k

-- a stop by an input sets Input_Error
abbrev pub halted_by_input : MemoryMeans → MemoryMeans
halted_by_input k = stopped (with_flags k (with_input k.flags true))
