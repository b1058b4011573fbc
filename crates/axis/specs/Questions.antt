-- The questions of a block: each is asked of the block by itself, and the first no refuses it. Where every answer is yes, the command gives
-- its order.
use Rattle.std.specs.Prelude.{ℕ, ◌*◌, Bool, true, false, cond, not, ◌&&◌, ◌||◌, List, [], ◌∷◌, ℤ, pos, ◌+ℤ◌, is_some, Some, None, Ok, Err, Option, Result, ◌==◌, int_lt, unsigned_abs}
use Rattle.drive.specs.Directions.{toward}
use Rattle.drive.specs.Positions.{is_position}
use Rattle.block.specs.Frames.{is_dwell_of, direction_of, clears_trip_of}
use Rattle.block.specs.Pairs.{joined, decoded}
use Rattle.block.specs.declared.command.Command.{Command}
use Rattle.block.specs.declared.command.Command.TheVariants as command
use Rattle.block.specs.declared.frame.Block.{Block}
use Rattle.block.specs.declared.pair.Pair.{Pair}
use Rattle.block.specs.declared.refusal.Refusal.{Refusal}
use Rattle.block.specs.declared.refusal.Refusal.TheVariants as refusal
use Rattle.table.specs.Courses.{goes_to, stays_on, is_clear, are_clear}
use Rattle.table.specs.Tables.{has_room}
use Rattle.table.specs.declared.segment.Segment.{Segment}
use Rattle.axis.specs.Axes.{AxisMeans}
use Rattle.axis.specs.Plans.{blend_end}
use Rattle.axis.specs.declared.numbers.Numbers.{Numbers}
use Rattle.axis.specs.declared.order.DwellRun.{DwellRun}
use Rattle.axis.specs.declared.order.SingleMove.{SingleMove}
use Rattle.axis.specs.declared.order.Order.{Order}
use Rattle.axis.specs.declared.order.Order.TheVariants as order
use Rattle.profile.specs.declared.rates.Rates.{Rates}
use Rattle.axis.specs.declared.state.State.{State}
use Rattle.axis.specs.declared.state.State.TheVariants.{Idle, Programming, Running, Pausing, Holding, Held}

-- whether the answer to a question is yes, and what a no refuses with
pub record Question : Type 0 where
  pub yes : Bool
  pub no : Refusal

-- the first no refuses; without one it is x
abbrev pub first_no : {X : Type 0} → List Question → X → Result X Refusal
first_no [] x = Ok x
first_no (q ∷ qs) x = cond q.yes (first_no qs x) (Err q.no)

-- Idle and Held
abbrev pub rests : State → Bool
rests Idle = true
rests Programming = false
rests (Running travel) = false
rests (Pausing next ticks) = false
rests (Holding travel) = false
rests (Held target) = true

-- Running, also in a pause
abbrev pub runs : State → Bool
runs Idle = false
runs Programming = false
runs (Running travel) = true
runs (Pausing next ticks) = true
runs (Holding travel) = false
runs (Held target) = false

-- Programming
abbrev pub programs : State → Bool
programs Idle = false
programs Programming = true
programs (Running travel) = false
programs (Pausing next ticks) = false
programs (Holding travel) = false
programs (Held target) = false

-- the target of a held move
abbrev pub held_target : State → Option ℤ
held_target Idle = None
held_target Programming = None
held_target (Running travel) = None
held_target (Pausing next ticks) = None
held_target (Holding travel) = None
held_target (Held target) = Some target

-- Held
abbrev pub is_held : State → Bool
is_held s = is_some (held_target s)

-- Does the state allow the command? Absolute, Relative, Preset, Program and Run need a set-up, and Run a ready table too.
abbrev pub allowed : AxisMeans → Command → Bool
allowed m command.Absolute = rests m.memory.state && not m.memory.flags.configuration
allowed m command.Relative = rests m.memory.state && not m.memory.flags.configuration
allowed m command.Hold = runs m.memory.state
allowed m command.Resume = is_held m.memory.state
allowed m command.Stop = true
allowed m command.Preset = rests m.memory.state && not m.memory.flags.configuration
allowed m command.Reset = rests m.memory.state
allowed m command.Program = rests m.memory.state && not m.memory.flags.configuration
allowed m command.Segment = programs m.memory.state && has_room m.memory.table
allowed m command.Run = rests m.memory.state && (not m.memory.flags.configuration && m.memory.table.ready)

-- two words obey the pair rule
abbrev pub is_pair : Pair → Bool
is_pair p = is_some (decoded p)

-- Do the pairs that the command uses obey the pair rule? Absolute, Relative and Segment use both, Preset the place, Resume the speed.
abbrev pub pairs_obey : Block → Command → Bool
pairs_obey b command.Absolute = is_pair b.place && is_pair b.speed
pairs_obey b command.Relative = is_pair b.place && is_pair b.speed
pairs_obey b command.Hold = true
pairs_obey b command.Resume = is_pair b.speed
pairs_obey b command.Stop = true
pairs_obey b command.Preset = is_pair b.place
pairs_obey b command.Reset = true
pairs_obey b command.Program = true
pairs_obey b command.Segment = is_pair b.place && is_pair b.speed
pairs_obey b command.Run = true

-- the numbers that the words of a block say
abbrev pub numbers_in : Block → Numbers
numbers_in b = record { block = b; place = joined b.place.first b.place.second; speed = joined b.speed.first b.speed.second }

-- the same with another place
abbrev pub to_place : Numbers → ℤ → Numbers
to_place n x = record { block = n.block; place = x; speed = n.speed }

-- a relative move goes to where its offset leads
abbrev pub led_to : AxisMeans → Numbers → Numbers
led_to m n = to_place n (m.drive.place +ℤ n.place)

-- both ends are within
abbrev pub in_range : ℤ → ℤ → ℤ → Bool
in_range low high n = not (int_lt n low) && not (int_lt high n)

-- a speed from S to 1000 times the drive's reach
unfoldable pub speed_fits : ℕ → AxisMeans → ℤ → Bool
speed_fits g m v = in_range (pos m.memory.table.start) (pos (1000 * g)) v

-- an acceleration or a deceleration from 1 to 5,000
unfoldable pub rate_fits : ℤ → Bool
rate_fits n = in_range (pos 1) (pos 5000) n

-- both of a block
unfoldable pub rates_fit : Block → Bool
rates_fit b = rate_fits b.accel && rate_fits b.decel

-- the speed and the rates of a single move
unfoldable pub pace_fits : ℕ → AxisMeans → Numbers → Bool
pace_fits g m n = speed_fits g m n.speed && rates_fit n.block

-- a dwell from 0 to 30,000 ticks
unfoldable pub dwell_fits : Block → Bool
dwell_fits b = in_range (pos 0) (pos 30000) b.dwell

-- the distance of a segment: a position, and not 0
unfoldable pub distance_fits : ℤ → Bool
distance_fits d = not (unsigned_abs d == 0) && is_position d

-- the distance and the speed of a segment
abbrev pub segment_fits : ℕ → AxisMeans → Numbers → Bool
segment_fits g m n = distance_fits n.place && speed_fits g m n.speed

-- Are its values in range: target, offset, preset and distance, the speed, the rates of a move, and the dwell of a dwell move?
abbrev pub values_fit : ℕ → AxisMeans → Block → Command → Bool
values_fit g m b command.Absolute = is_position (numbers_in b).place && pace_fits g m (numbers_in b)
values_fit g m b command.Relative = is_position (numbers_in b).place && pace_fits g m (numbers_in b)
values_fit g m b command.Hold = true
values_fit g m b command.Resume = pace_fits g m (numbers_in b)
values_fit g m b command.Stop = true
values_fit g m b command.Preset = is_position (numbers_in b).place
values_fit g m b command.Reset = true
values_fit g m b command.Program = true
values_fit g m b command.Segment = segment_fits g m (numbers_in b)
values_fit g m b command.Run = cond (is_dwell_of b) (rates_fit b && dwell_fits b) (rates_fit b)

-- the moves
abbrev pub is_move : Command → Bool
is_move command.Absolute = true
is_move command.Relative = true
is_move command.Hold = false
is_move command.Resume = true
is_move command.Stop = false
is_move command.Preset = false
is_move command.Reset = false
is_move command.Program = false
is_move command.Segment = false
is_move command.Run = true

-- Is Input_Error, the E-stop or a trip on?
unfoldable pub inhibited : AxisMeans → Bool
inhibited m = m.memory.flags.input || (m.memory.levels.estop || m.drive.tripped)

-- For a move: is none of them on?
abbrev pub may_go : AxisMeans → Command → Bool
may_go m c = cond (is_move c) (not (inhibited m)) true

-- For Absolute: is Position_Invalid off?
abbrev pub is_valid : AxisMeans → Command → Bool
is_valid m command.Absolute = not m.memory.flags.invalid
is_valid m command.Relative = true
is_valid m command.Hold = true
is_valid m command.Resume = true
is_valid m command.Stop = true
is_valid m command.Preset = true
is_valid m command.Reset = true
is_valid m command.Program = true
is_valid m command.Segment = true
is_valid m command.Run = true

-- Does the move go at least one step, and is its end, and the end of each row of a dwell move, a position?
abbrev pub course_fits : AxisMeans → Block → Command → Bool
course_fits m b command.Absolute = goes_to m.drive.place (numbers_in b).place
course_fits m b command.Relative = goes_to m.drive.place (led_to m (numbers_in b)).place
course_fits m b command.Hold = true
course_fits m b command.Resume = elim (held_target m.memory.state) [ None ↦ true | Some target ↦ goes_to m.drive.place target ]
course_fits m b command.Stop = true
course_fits m b command.Preset = true
course_fits m b command.Reset = true
course_fits m b command.Program = true
course_fits m b command.Segment = true
course_fits m b command.Run =
    cond (is_dwell_of b) (stays_on m.drive.place m.memory.table.rows) (goes_to m.drive.place (blend_end m (direction_of b)))

-- Is the limit off in each direction that it takes?
abbrev pub limits_off : AxisMeans → Block → Command → Bool
limits_off m b command.Absolute = is_clear m.memory.levels.limits (toward m.drive.place (numbers_in b).place)
limits_off m b command.Relative = is_clear m.memory.levels.limits (toward m.drive.place (led_to m (numbers_in b)).place)
limits_off m b command.Hold = true
limits_off m b command.Resume =
    elim (held_target m.memory.state) [ None ↦ true | Some target ↦ is_clear m.memory.levels.limits (toward m.drive.place target) ]
limits_off m b command.Stop = true
limits_off m b command.Preset = true
limits_off m b command.Reset = true
limits_off m b command.Program = true
limits_off m b command.Segment = true
limits_off m b command.Run =
    cond (is_dwell_of b) (are_clear m.memory.levels.limits m.memory.table.rows) (is_clear m.memory.levels.limits (direction_of b))

-- the questions about a command, from the fourth on
abbrev pub questions : ℕ → AxisMeans → Block → Command → List Question
questions g m b c =
    record { yes = allowed m c; no = refusal.State }
    ∷ record { yes = pairs_obey b c; no = refusal.Pair }
    ∷ record { yes = values_fit g m b c; no = refusal.Range }
    ∷ record { yes = may_go m c; no = refusal.Inhibited }
    ∷ record { yes = is_valid m c; no = refusal.PositionInvalid }
    ∷ record { yes = course_fits m b c; no = refusal.Course }
    ∷ record { yes = limits_off m b c; no = refusal.Limit }
    ∷ []

-- the rates of a block, once they are in range
abbrev pub rates_of : Block → Rates
rates_of b = record { accel = unsigned_abs b.accel; decel = unsigned_abs b.decel }

-- the single move that numbers in range ask for
abbrev pub single_of : Numbers → SingleMove
single_of n = record { target = n.place; speed = unsigned_abs n.speed; rates = rates_of n.block }

-- the row of the table that numbers in range ask for
abbrev pub segment_of : Numbers → Segment
segment_of n = record { distance = n.place; speed = unsigned_abs n.speed }

-- the rates and the dwell of a dwell move, once they are in range
abbrev pub run_of : Block → DwellRun
run_of b = record { rates = rates_of b; dwell = unsigned_abs b.dwell }

-- the order that each command gives; a Resume goes to the target that is held
abbrev pub order_for : AxisMeans → Block → Command → Order
order_for m b command.Absolute = order.Go (single_of (numbers_in b))
order_for m b command.Relative = order.Go (single_of (led_to m (numbers_in b)))
order_for m b command.Hold = order.Hold
order_for m b command.Resume =
    elim (held_target m.memory.state) [ None ↦ order.Nothing | Some target ↦ order.Go (single_of (to_place (numbers_in b) target)) ]
order_for m b command.Stop = order.Stop
order_for m b command.Preset = order.Preset (numbers_in b).place
order_for m b command.Reset = order.Reset (clears_trip_of b)
order_for m b command.Program = order.Program
order_for m b command.Segment = order.Segment (segment_of (numbers_in b))
order_for m b command.Run = cond (is_dwell_of b) (order.Dwell (run_of b)) (order.Blend (direction_of b) (rates_of b))

-- The order of a block by what its rising bits command: the third question is whether only one bit rises; where none does, nothing is
-- ordered.
abbrev pub order_by : ℕ → AxisMeans → Block → Result (Option Command) Refusal → Result Order Refusal
order_by g m b (Ok (Some c)) = first_no (questions g m b c) (order_for m b c)
order_by g m b (Ok None) = Ok order.Nothing
order_by g m b (Err why) = Err why
