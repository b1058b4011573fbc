-- What an accepted block makes of the axis. The profile's new meaning p is what its own calls allow (Uses).
use Rattle.std.specs.Prelude.{◌≡◌, Bool, true, false, cond, ℤ, MatchBool, ◌==◌}
use Rattle.drive.specs.Directions.{toward}
use Rattle.drive.specs.Drives.{landed, setting, with_trip}
use Rattle.drive.specs.Positions.{is_position}
use Rattle.profile.specs.Plans.{Lawful}
use Rattle.profile.specs.Profiles.{ProfileMeans, Begun, Braked}
use Rattle.table.specs.Segments.{way_of}
use Rattle.table.specs.TablePlans.{row_at, blend_plan, row_plan}
use Rattle.table.specs.Tables.{TableMeans, emptied, added, takes}
use Rattle.axis.specs.Axes.{AxisMeans, with_memory}
use Rattle.axis.specs.Questions.{runs}
use Rattle.axis.specs.Memories.{MemoryMeans, with_table, with_state, with_flags, with_pace, with_command, with_input, with_invalid, with_complete, no_pace}
use Rattle.axis.specs.Plans.{single_plan}
use Rattle.axis.specs.Stops.{stopped, eased}
use Rattle.axis.specs.declared.order.DwellRow.{DwellRow}
use Rattle.axis.specs.declared.order.SingleMove.{SingleMove}
use Rattle.axis.specs.declared.order.Order.{Order}
use Rattle.axis.specs.declared.order.Order.TheVariants as order
use Rattle.axis.specs.declared.state.Kind.TheVariants.{Single, Blend, Dwell}
use Rattle.axis.specs.declared.state.State.{State}
use Rattle.axis.specs.declared.state.State.TheVariants.{Idle, Programming, Running, Pausing, Holding, Held}
use Rattle.axis.specs.declared.state.Travel.{Travel}

-- a move sets out: Move_Complete is cleared, and the axis runs
abbrev pub set_out : MemoryMeans → Travel → MemoryMeans
set_out k travel = with_pace (with_state (with_flags k (with_complete k.flags false)) (Running travel)) no_pace

-- a plan begins
abbrev pub began : AxisMeans → Travel → ProfileMeans → AxisMeans
began m travel p = record { drive = m.drive; profile = p; memory = set_out m.memory travel }

-- to a target, from where the drive stands
abbrev pub go_travel : AxisMeans → SingleMove → Travel
go_travel m single = record { direction = toward m.drive.place single.target; kind = Single single.target }

-- along a row of the table
abbrev pub row_travel : TableMeans → DwellRow → Travel
row_travel t row = record { direction = way_of (row_at t row.index); kind = Dwell row }

-- a hold brakes; in a pause nothing is left, so it is over at once
abbrev pub held : State → AxisMeans → ProfileMeans → AxisMeans
held Idle m p = m
held Programming m p = m
held (Running travel) m p = record { drive = m.drive; profile = p; memory = eased m.memory (p.left == 0) m.drive.place travel }
held (Pausing next ticks) m p = record { drive = m.drive; profile = p; memory = with_state m.memory Idle }
held (Holding travel) m p = m
held (Held target) m p = m

-- a preset: Position_Invalid and Move_Complete are cleared, and a held move is abandoned
abbrev pub preset_memory : MemoryMeans → MemoryMeans
preset_memory k = with_state (with_flags k (with_complete (with_invalid k.flags false) false)) Idle

-- the drive is set to a place too
abbrev pub preset : AxisMeans → ℤ → AxisMeans
preset m x = record { drive = landed m.drive (setting x); profile = m.profile; memory = preset_memory m.memory }

-- Reset Errors clears Command_Error, Input_Error and Move_Complete
abbrev pub reset_memory : MemoryMeans → MemoryMeans
reset_memory k = with_flags k (with_complete (with_input (with_command k.flags false) false) false)

-- and the trip where that is asked for
abbrev pub reset : AxisMeans → Bool → AxisMeans
reset m trip = record { drive = cond trip (with_trip m.drive false) m.drive; profile = m.profile; memory = reset_memory m.memory }

-- a programming begins with an empty table
abbrev pub programmed : MemoryMeans → MemoryMeans
programmed k = with_state (with_table k (emptied k.table.start)) Programming

-- what each order makes of the axis
abbrev pub carried : AxisMeans → Order → ProfileMeans → AxisMeans
carried m order.Nothing p = m
carried m (order.Go single) p = began m (go_travel m single) p
carried m order.Hold p = held m.memory.state m p
carried m order.Stop p = with_memory m (stopped m.memory)
carried m (order.Preset x) p = preset m x
carried m (order.Reset trip) p = reset m trip
carried m order.Program p = with_memory m (programmed m.memory)
carried m (order.Segment s) p = with_memory m (with_table m.memory (added m.memory.table s))
carried m (order.Blend way rates) p = began m (record { direction = way; kind = Blend }) p
carried m (order.Dwell run) p = began m (row_travel m.memory.table (record { run = run; index = 0 })) p

-- what becomes of the profile: a move begins exactly its plan, a hold brakes, and nothing else touches it
abbrev pub Uses : AxisMeans → Order → ProfileMeans → Type 0
Uses m order.Nothing p = p ≡ m.profile
Uses m (order.Go single) p = Begun m.profile (single_plan m single) p
Uses m order.Hold p = MatchBool (runs m.memory.state) (Braked m.profile p) (p ≡ m.profile)
Uses m order.Stop p = p ≡ m.profile
Uses m (order.Preset x) p = p ≡ m.profile
Uses m (order.Reset trip) p = p ≡ m.profile
Uses m order.Program p = p ≡ m.profile
Uses m (order.Segment s) p = p ≡ m.profile
Uses m (order.Blend way rates) p = Begun m.profile (blend_plan m.memory.table rates) p
Uses m (order.Dwell run) p = Begun m.profile (row_plan m.memory.table run.rates 0) p

-- an order that calls the profile
abbrev pub calls_profile : Order → Bool
calls_profile order.Nothing = false
calls_profile (order.Go single) = true
calls_profile order.Hold = true
calls_profile order.Stop = false
calls_profile (order.Preset x) = false
calls_profile (order.Reset trip) = false
calls_profile order.Program = false
calls_profile (order.Segment s) = false
calls_profile (order.Blend way rates) = true
calls_profile (order.Dwell run) = true

-- an order that calls the drive
abbrev pub calls_drive : Order → Bool
calls_drive order.Nothing = false
calls_drive (order.Go single) = false
calls_drive order.Hold = false
calls_drive order.Stop = false
calls_drive (order.Preset x) = true
calls_drive (order.Reset trip) = trip
calls_drive order.Program = false
calls_drive (order.Segment s) = false
calls_drive (order.Blend way rates) = false
calls_drive (order.Dwell run) = false

-- an order that can be carried out: its plan is a plan, its place a position, its row one that the table takes
abbrev pub Ready : AxisMeans → Order → Type 0
Ready m order.Nothing = Unit {0}
Ready m (order.Go single) = Lawful (single_plan m single)
Ready m order.Hold = Unit {0}
Ready m order.Stop = Unit {0}
Ready m (order.Preset x) = is_position x ≡ true
Ready m (order.Reset trip) = Unit {0}
Ready m order.Program = Unit {0}
Ready m (order.Segment s) = takes m.memory.table s ≡ true
Ready m (order.Blend way rates) = Lawful (blend_plan m.memory.table rates)
Ready m (order.Dwell run) = Lawful (row_plan m.memory.table run.rates 0)
