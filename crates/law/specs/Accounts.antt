-- What a run tells of itself: after each moment, by its call, its answer and what was to be seen, from what was told before. It is
-- told of histories alone, and says nothing of how an axis works.
use Rattle.std.specs.Prelude.{ℕ, suc, Bool, true, false, cond, not, List, [], ◌∷◌, ◌++◌, map, ℤ, pos, ◌+ℤ◌, Some, None, Ok, Err, Option, Result, ◌==◌, unsigned_abs}
use Rattle.drive.specs.Directions.{signed, toward}
use Rattle.drive.specs.Drives.{DriveMeans}
use Rattle.drive.specs.Positions.{distance}
use Rattle.profile.specs.Plans.{PlanMeans}
use Rattle.profile.specs.Profiles.{ProfileMeans, brake_ticks}
use Rattle.profile.specs.Rows.{steps_of}
use Rattle.profile.specs.declared.row.Row.{Row}
use Rattle.block.specs.Commands.{commanded}
use Rattle.block.specs.Events.{event_of}
use Rattle.block.specs.Frames.{block_of, is_dwell_of, direction_of}
use Rattle.block.specs.Pairs.{joined}
use Rattle.block.specs.Words.{rising}
use Rattle.block.specs.declared.command.Command.{Command}
use Rattle.block.specs.declared.command.Command.TheVariants as command
use Rattle.block.specs.declared.event.Event.{Event}
use Rattle.block.specs.declared.event.Event.TheVariants as event
use Rattle.block.specs.declared.frame.Block.{Block}
use Rattle.block.specs.declared.refusal.Refusal.{Refusal}
use Rattle.table.specs.Courses.{is_clear}
use Rattle.table.specs.Segments.{row_of, way_of}
use Rattle.table.specs.declared.segment.Segment.{Segment}
use Rattle.axis.specs.EventCalls.{with_level, with_estop}
use Rattle.axis.specs.declared.flags.Levels.{Levels}
use Rattle.law.specs.Calls.{Call, SetUp, Block as BlockCall, Event as EventCall, Tick, Reading, Answer, accepted, steps_in}
use Rattle.law.specs.Moments.{View}
use Rattle.law.specs.Journeys.{Leg, Route, Journey, none, begun_journey, ticked, braked, move_ticks}

-- the ticks allowed to a move under way, and those passed
pub record Timing : Type 0 where
  pub allowed : ℕ
  pub passed : ℕ

-- the ticks that may send steps after a hold or a full stop, and those that did
pub record Rest : Type 0 where
  pub allowed : ℕ
  pub sent : ℕ

-- what the moments so far tell
pub record Account : Type 0 where
  -- what was to be seen after the latest call
  pub view : View
  -- the last accepted preset, or the drive's first place, and all steps answered since
  pub counted : ℤ
  -- word 0 of the last block that was kept
  pub kept : ℕ
  -- the levels of the inputs, by the events
  pub levels : Levels
  -- the starting speed of the last accepted set-up, 1 before the first
  pub start : ℕ
  -- the latest programming: the Segments accepted since the last accepted Program
  pub rows : List Segment
  -- where the last accepted move was sent; before the first the drive's first place
  pub target : ℤ
  -- how far the latest move has come
  pub journey : Journey
  -- from an accepted move until Move_Complete, an accepted Hold or a full stop
  pub underway : Option Timing
  -- from an accepted Hold or a full stop until the next accepted move
  pub resting : Option Rest

-- before the first call, over a drive and a profile that mean these
abbrev pub first_account : DriveMeans → ProfileMeans → Account
first_account d p =
    record {
      view = record { position = d.place; complete = false; drive = d; profile = p };
      counted = d.place;
      kept = 0;
      levels = record { limits = record { cw = false; ccw = false }; estop = false };
      start = 1;
      rows = [];
      target = d.place;
      journey = none;
      underway = None;
      resting = None;
    }

-- a command, with the block that gives it
pub record Ordered : Type 0 where
  pub command : Command
  pub block : Block

-- what a block orders whose rising bits say this: the command of the one that rises
abbrev pub ordered_by : Block → Result (Option Command) Refusal → Option Ordered
ordered_by b (Ok (Some c)) = Some (record { command = c; block = b })
ordered_by b (Ok None) = None
ordered_by b (Err why) = None

-- what words order that make a block or are refused as none
abbrev pub ordered_in : ℕ → Result Block Refusal → Option Ordered
ordered_in kept (Ok b) = ordered_by b (commanded (rising kept b.bits))
ordered_in kept (Err why) = None

-- the accepted command: only its bit rises since the word kept before, and its block answers 0
abbrev pub ordered : ℕ → Call → Bool → Option Ordered
ordered kept (SetUp n) ok = None
ordered kept (BlockCall ws) ok = cond ok (ordered_in kept (block_of ws)) None
ordered kept (EventCall n) ok = None
ordered kept Tick ok = None
ordered kept (Reading ws) ok = None

-- word 0 is kept of each block of ten words without reserved bits, accepted or not
abbrev pub kept_in : ℕ → Result Block Refusal → ℕ
kept_in kept (Ok b) = b.bits
kept_in kept (Err why) = kept

-- the kept word after a call
abbrev pub kept_after : ℕ → Call → ℕ
kept_after kept (SetUp n) = kept
kept_after kept (BlockCall ws) = kept_in kept (block_of ws)
kept_after kept (EventCall n) = kept
kept_after kept Tick = kept
kept_after kept (Reading ws) = kept

-- the levels after an event
abbrev pub levels_by : Levels → Result Event Refusal → Levels
levels_by l (Ok (event.Limit way on)) = with_level l way on
levels_by l (Ok (event.EStop on)) = with_estop l on
levels_by l (Ok event.Trip) = l
levels_by l (Err why) = l

-- the levels after a call
abbrev pub levels_after : Levels → Call → Levels
levels_after l (SetUp n) = l
levels_after l (BlockCall ws) = l
levels_after l (EventCall n) = levels_by l (event_of n)
levels_after l Tick = l
levels_after l (Reading ws) = l

-- the starting speed after a call: that of a set-up that is accepted
abbrev pub start_after : ℕ → Call → Bool → ℕ
start_after S (SetUp n) ok = cond ok (unsigned_abs n) S
start_after S (BlockCall ws) ok = S
start_after S (EventCall n) ok = S
start_after S Tick ok = S
start_after S (Reading ws) ok = S

-- the number in words 2 and 3
abbrev pub number_in : Block → ℤ
number_in b = joined b.place.first b.place.second

-- the speed in words 4 and 5
abbrev pub speed_in : Block → ℕ
speed_in b = unsigned_abs (joined b.speed.first b.speed.second)

-- the row that an accepted Segment adds
abbrev pub segment_in : Block → Segment
segment_in b = record { distance = number_in b; speed = speed_in b }

-- the latest programming after an accepted command: Program begins a new one, and Segment adds a row after those already there
abbrev pub rows_by : List Segment → Command → Block → List Segment
rows_by rows command.Absolute b = rows
rows_by rows command.Relative b = rows
rows_by rows command.Hold b = rows
rows_by rows command.Resume b = rows
rows_by rows command.Stop b = rows
rows_by rows command.Preset b = rows
rows_by rows command.Reset b = rows
rows_by rows command.Program b = []
rows_by rows command.Segment b = rows ++ segment_in b ∷ []
rows_by rows command.Run b = rows

-- the same after any moment, which may have no accepted command
abbrev pub rows_after : List Segment → Option Ordered → List Segment
rows_after rows None = rows
rows_after rows (Some o) = rows_by rows o.command o.block

-- the sum of the distances of some rows, with their signs
abbrev pub sum_of : List Segment → ℤ
sum_of [] = pos 0
sum_of (s ∷ ss) = s.distance +ℤ sum_of ss

-- What a moment does to the motion of the axis. A level that comes on, and a trip of an untripped drive, count as full stops in every
-- state: where nothing moves that claims only that nothing moves until the next accepted move.
pub data Effect : Type 0 where
  -- an accepted move: where it is sent, and its route
  Moves : (to : ℤ) → Route → Effect
  -- an accepted Hold
  Holds : Effect
  -- a full stop
  Stops : Effect
  -- an accepted Preset
  Presets : ℤ → Effect
  -- a tick, whatever it answers
  Ticks : Effect
  -- any other call, and any that is refused
  Nothing : Effect

-- a plan with the starting speed in force and a block's rates
abbrev pub plan_by : ℕ → Block → List Row → PlanMeans
plan_by S b rows = record { start = S; accel = unsigned_abs b.accel; decel = unsigned_abs b.decel; rows = rows }

-- a single move: one row of the steps from the position to its target
abbrev pub single : Account → Block → ℤ → Effect
single a b to =
    let x : ℤ = a.view.position in
    Moves to (record { legs = record { way = toward x to; plan = plan_by a.start b (record { steps = distance x to; speed = speed_in b } ∷ []) } ∷ []; pause = 0 })

-- a blend: one plan of exactly the rows of the latest programming, in one direction, signs ignored
abbrev pub blend : Account → Block → Effect
blend a b =
    let rows : List Row = map row_of a.rows in
    Moves (a.view.position +ℤ signed (direction_of b) (steps_of rows)) (record { legs = record { way = direction_of b; plan = plan_by a.start b rows } ∷ []; pause = 0 })

-- the leg of a row: a plan with exactly this row, in its direction
abbrev pub row_leg : ℕ → Block → Segment → Leg
row_leg S b s = record { way = way_of s; plan = plan_by S b (row_of s ∷ []) }

-- a dwell move: such a leg for each row of the latest programming, in order, and the dwell as the pause between two
abbrev pub dwell : Account → Block → Effect
dwell a b = Moves (a.view.position +ℤ sum_of a.rows) (record { legs = map (row_leg a.start b) a.rows; pause = unsigned_abs b.dwell })

-- what an accepted command does: a Resume is sent where the last accepted move was
abbrev pub command_effect : Account → Command → Block → Effect
command_effect a command.Absolute b = single a b (number_in b)
command_effect a command.Relative b = single a b (a.view.position +ℤ number_in b)
command_effect a command.Hold b = Holds
command_effect a command.Resume b = single a b a.target
command_effect a command.Stop b = Stops
command_effect a command.Preset b = Presets (number_in b)
command_effect a command.Reset b = Nothing
command_effect a command.Program b = Nothing
command_effect a command.Segment b = Nothing
command_effect a command.Run b = cond (is_dwell_of b) (dwell a b) (blend a b)

-- what a block does, by the command that it has accepted, if any
abbrev pub block_effect : Account → Option Ordered → Effect
block_effect a None = Nothing
block_effect a (Some o) = command_effect a o.command o.block

-- whether an event turns something on that was off
abbrev pub comes_on : Account → Event → Bool
comes_on a (event.Limit way true) = is_clear a.levels.limits way
comes_on a (event.Limit way false) = false
comes_on a (event.EStop true) = not a.levels.estop
comes_on a (event.EStop false) = false
comes_on a event.Trip = not a.view.drive.tripped

-- what an event does, by its code
abbrev pub event_effect : Account → Result Event Refusal → Effect
event_effect a (Ok e) = cond (comes_on a e) Stops Nothing
event_effect a (Err why) = Nothing

-- what a call does, accepted or not
abbrev pub effect : Account → Call → Bool → Effect
effect a (SetUp n) ok = Nothing
effect a (BlockCall ws) ok = block_effect a (ordered a.kept (BlockCall ws) ok)
effect a (EventCall n) ok = event_effect a (event_of n)
effect a Tick ok = Ticks
effect a (Reading ws) ok = Nothing

-- the same, by its answer
abbrev pub effect_of : Account → Call → Answer → Effect
effect_of a c r = effect a c (accepted r)

-- the count after a moment that answers n steps: a preset sets it, and a tick adds its steps
abbrev pub counted_by : ℤ → Effect → ℤ → ℤ
counted_by z (Moves to r) n = z
counted_by z Holds n = z
counted_by z Stops n = z
counted_by z (Presets p) n = p
counted_by z Ticks n = z +ℤ n
counted_by z Nothing n = z

-- the target after a moment
abbrev pub target_by : ℤ → Effect → ℤ
target_by to (Moves x r) = x
target_by to Holds = to
target_by to Stops = to
target_by to (Presets p) = to
target_by to Ticks = to
target_by to Nothing = to

-- nothing is left of the profile's plan
abbrev pub is_over : View → Bool
is_over v = v.profile.gone == v.profile.asked

-- the journey after a moment before which the position was x
abbrev pub journey_by : ℤ → Journey → Effect → View → Journey
journey_by x j (Moves to r) v = begun_journey x r.legs r.pause
journey_by x j Holds v = braked j
journey_by x j Stops v = none
journey_by x j (Presets p) v = none
journey_by x j Ticks v = ticked (is_over v) j
journey_by x j Nothing v = j

-- one more tick has passed
abbrev pub one_more : Option Timing → Option Timing
one_more None = None
one_more (Some t) = Some (record { allowed = t.allowed; passed = suc t.passed })

-- a move is under way from its block until Move_Complete, an accepted Hold or a full stop; each tick counts
abbrev pub underway_by : Option Timing → Effect → View → Option Timing
underway_by u (Moves to r) v = Some (record { allowed = move_ticks v.profile.lag r.pause r.legs; passed = 0 })
underway_by u Holds v = None
underway_by u Stops v = None
underway_by u (Presets p) v = cond v.complete None u
underway_by u Ticks v = cond v.complete None (one_more u)
underway_by u Nothing v = cond v.complete None u

-- a tick that answers n steps, after a hold or a full stop: it counts where n is not 0
abbrev pub sending : Option Rest → ℤ → Option Rest
sending None n = None
sending (Some r) n = Some (record { allowed = r.allowed; sent = cond (unsigned_abs n == 0) r.sent (suc r.sent) })

-- after a hold as many ticks may send steps as a brake may take, after a full stop none; an accepted move ends that
abbrev pub resting_by : Option Rest → Effect → ℤ → View → Option Rest
resting_by s (Moves to r) n v = None
resting_by s Holds n v = Some (record { allowed = brake_ticks v.profile; sent = 0 })
resting_by s Stops n v = Some (record { allowed = 0; sent = 0 })
resting_by s (Presets p) n v = s
resting_by s Ticks n v = sending s n
resting_by s Nothing n v = s

-- the account after a moment
abbrev pub account_after : Account → Call → Answer → View → Account
account_after a c r v =
    let e : Effect = effect_of a c r in
    record {
      view = v;
      counted = counted_by a.counted e (steps_in r);
      kept = kept_after a.kept c;
      levels = levels_after a.levels c;
      start = start_after a.start c (accepted r);
      rows = rows_after a.rows (ordered a.kept c (accepted r));
      target = target_by a.target e;
      journey = journey_by a.view.position a.journey e v;
      underway = underway_by a.underway e v;
      resting = resting_by a.resting e (steps_in r) v;
    }
