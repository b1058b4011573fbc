-- What an event makes of the axis. A level that is so already changes nothing, nor does a trip of a tripped drive.
use Rattle.std.specs.Prelude.{Bool, true, false, cond, Ok, Err, Result}
use Rattle.drive.specs.Drives.{with_trip}
use Rattle.drive.specs.declared.direction.Direction.{Direction}
use Rattle.block.specs.declared.event.Event.{Event}
use Rattle.block.specs.declared.event.Event.TheVariants as event
use Rattle.block.specs.declared.refusal.Refusal.{Refusal}
use Rattle.table.specs.Courses.{is_clear, with_limit}
use Rattle.axis.specs.Axes.{AxisMeans, with_memory}
use Rattle.axis.specs.Memories.{MemoryMeans, with_levels}
use Rattle.axis.specs.Stops.{stopped, halted_by_input}
use Rattle.axis.specs.declared.flags.Levels.{Levels}
use Rattle.axis.specs.declared.state.State.{State}
use Rattle.axis.specs.declared.state.State.TheVariants.{Idle, Programming, Running, Pausing, Holding, Held}

-- running, also in a pause, or holding
abbrev pub travels : State → Bool
travels Idle = false
travels Programming = false
travels (Running travel) = true
travels (Pausing next ticks) = true
travels (Holding travel) = true
travels (Held target) = false

-- the limit in a direction so, and the other levels as they are
abbrev pub with_level : Levels → Direction → Bool → Levels
with_level l way on = record { limits = with_limit l.limits way on; estop = l.estop }

-- the E-stop so, and the limits as they are
abbrev pub with_estop : Levels → Bool → Levels
with_estop l on = record { limits = l.limits; estop = on }

-- a limit that comes on stops what travels, whatever its direction, and then sets Input_Error
abbrev pub limited : MemoryMeans → MemoryMeans
limited k = cond (travels k.state) (halted_by_input k) k

-- what each event makes of the axis
abbrev pub heeded : AxisMeans → Event → AxisMeans
heeded m (event.Limit way true) =
    with_memory m (cond (is_clear m.memory.levels.limits way) (limited (with_levels m.memory (with_level m.memory.levels way true))) m.memory)
heeded m (event.Limit way false) = with_memory m (with_levels m.memory (with_level m.memory.levels way false))
heeded m (event.EStop true) =
    with_memory m (cond m.memory.levels.estop m.memory (halted_by_input (with_levels m.memory (with_estop m.memory.levels true))))
heeded m (event.EStop false) = with_memory m (with_levels m.memory (with_estop m.memory.levels false))
heeded m event.Trip =
    cond m.drive.tripped m (record { drive = with_trip m.drive true; profile = m.profile; memory = stopped m.memory })

-- only a trip of an untripped drive calls it
abbrev pub trips_drive : AxisMeans → Event → Bool
trips_drive m (event.Limit way on) = false
trips_drive m (event.EStop on) = false
trips_drive m event.Trip = cond m.drive.tripped false true

-- what an event answers, by its code, which has to be an event's
abbrev pub event_answer : Result Event Refusal → Result (Unit {0}) Refusal
event_answer (Ok e) = Ok tt
event_answer (Err why) = Err why

-- what it makes of the axis; any other code changes nothing
abbrev pub event_after : AxisMeans → Result Event Refusal → AxisMeans
event_after m (Ok e) = heeded m e
event_after m (Err why) = m

-- whether it calls the drive
abbrev pub event_calls : AxisMeans → Result Event Refusal → Bool
event_calls m (Ok e) = trips_drive m e
event_calls m (Err why) = false
