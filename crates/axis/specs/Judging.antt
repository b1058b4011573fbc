-- How a block is judged, question after question: what the parts of the code that ask them promise. What comes of it is the order by the
-- list of Questions (`is_order`, of proofs/Questions).
use Rattle.std.specs.Prelude.{ℕ, Bool, cond, not, ◌&&◌, ℤ, Some, None, Ok, Err, Option, Result}
use Rattle.drive.specs.Directions.{toward}
use Rattle.drive.specs.Positions.{is_position}
use Rattle.drive.specs.declared.direction.Direction.{Direction}
use Rattle.block.specs.Frames.{is_dwell_of, direction_of, clears_trip_of}
use Rattle.block.specs.Pairs.{decoded}
use Rattle.block.specs.declared.command.Command.{Command}
use Rattle.block.specs.declared.command.Command.TheVariants as command
use Rattle.block.specs.declared.frame.Block.{Block}
use Rattle.block.specs.declared.refusal.Refusal.{Refusal}
use Rattle.block.specs.declared.refusal.Refusal.TheVariants as refusal
use Rattle.table.specs.Courses.{goes_to, stays_on, is_clear, are_clear}
use Rattle.axis.specs.Axes.{AxisMeans}
use Rattle.axis.specs.Plans.{blend_end}
use Rattle.axis.specs.Questions.{held_target, inhibited, rates_fit, dwell_fits, pace_fits, segment_fits, led_to, rates_of, single_of, segment_of, run_of}
use Rattle.axis.specs.declared.numbers.Numbers.{Numbers}
use Rattle.axis.specs.declared.order.SingleMove.{SingleMove}
use Rattle.axis.specs.declared.order.Order.{Order}
use Rattle.axis.specs.declared.order.Order.TheVariants as order

-- a question: with yes the next one is asked, with no the block is refused
abbrev pub asked : {X : Type 0} → Bool → Refusal → Result X Refusal → Result X Refusal
asked q why next = cond q next (Err why)

-- one question after another: the first refusal counts
abbrev pub then_ask : {X Y : Type 0} → Result X Refusal → (X → Result Y Refusal) → Result Y Refusal
then_ask (Ok x) next = next x
then_ask (Err why) next = Err why

-- Are two words a pair? The next questions are about the number that they say.
abbrev pub heard : Option ℤ → Result ℤ Refusal
heard None = Err refusal.Pair
heard (Some n) = Ok n

-- the question, and those after it
abbrev pub said : {X : Type 0} → Option ℤ → (ℤ → Result X Refusal) → Result X Refusal
said n next = then_ask (heard n) next

-- the numbers of a block that uses both pairs: the words of the place are asked first
unfoldable pub numbers_of : Block → Result Numbers Refusal
numbers_of b = said (decoded b.place) (λ place. said (decoded b.speed) (λ v. Ok (record { block = b; place = place; speed = v })))

-- Is a move held? The next questions are about its target.
abbrev pub on_held : {X : Type 0} → Option ℤ → (ℤ → Result X Refusal) → Result X Refusal
on_held None next = Err refusal.State
on_held (Some target) next = next target

-- Does the move go at least one step, and is its end a position? Is the limit off in its direction?
abbrev pub on_course : AxisMeans → ℤ → Direction → Result (Unit {0}) Refusal
on_course m target way =
    asked (goes_to m.drive.place target) refusal.Course
    (asked (is_clear m.memory.levels.limits way) refusal.Limit (Ok tt))

-- on its course the move is this order
abbrev pub on_its_course : AxisMeans → ℤ → Direction → Order → Result Order Refusal
on_its_course m target way o = then_ask (on_course m target way) (λ done. Ok o)

-- the last two questions, for a single move to a target
unfoldable pub go_judged : AxisMeans → SingleMove → Result Order Refusal
go_judged m single = on_its_course m single.target (toward m.drive.place single.target) (order.Go single)

-- Does nothing inhibit a move?
unfoldable pub may_move : AxisMeans → Result (Unit {0}) Refusal
may_move m = asked (not (inhibited m)) refusal.Inhibited (Ok tt)

-- what every move is asked: that its numbers are in range, and that nothing inhibits it
abbrev pub move_asked : AxisMeans → Bool → Result Order Refusal → Result Order Refusal
move_asked m fits next = asked fits refusal.Range (then_ask (may_move m) (λ done. next))

-- a single move to a target, beyond how the target is found
abbrev pub single_asked : ℕ → AxisMeans → Numbers → Result Order Refusal
single_asked g m n = move_asked m (pace_fits g m n) (go_judged m (single_of n))

-- for an absolute move the position of the axis has to be valid, which is asked before its course
abbrev pub valid_asked : ℕ → AxisMeans → Numbers → Result Order Refusal
valid_asked g m n =
    move_asked m (pace_fits g m n) (asked (not m.memory.flags.invalid) refusal.PositionInvalid (go_judged m (single_of n)))

-- its target has to be a position
abbrev pub absolute_asked : ℕ → AxisMeans → Numbers → Result Order Refusal
absolute_asked g m n = asked (is_position n.place) refusal.Range (valid_asked g m n)

-- the offset of a relative move has to be a position
abbrev pub relative_asked : ℕ → AxisMeans → Numbers → Result Order Refusal
relative_asked g m n = asked (is_position n.place) refusal.Range (single_asked g m (led_to m n))

-- Absolute, from the fifth question on
abbrev pub absolute_judged : ℕ → AxisMeans → Block → Result Order Refusal
absolute_judged g m b = then_ask (numbers_of b) (absolute_asked g m)

-- Relative, from the fifth question on
abbrev pub relative_judged : ℕ → AxisMeans → Block → Result Order Refusal
relative_judged g m b = then_ask (numbers_of b) (relative_asked g m)

-- Resume to the target of the held move, from the fifth question on
abbrev pub resume_judged : ℕ → AxisMeans → Block → ℤ → Result Order Refusal
resume_judged g m b target = said (decoded b.speed) (λ v. single_asked g m (record { block = b; place = target; speed = v }))

-- a blend, from the sixth question on
abbrev pub blend_judged : AxisMeans → Block → Result Order Refusal
blend_judged m b =
    move_asked m (rates_fit b)
    (on_its_course m (blend_end m (direction_of b)) (direction_of b) (order.Blend (direction_of b) (rates_of b)))

-- a dwell move, from the sixth question on; each of its rows is asked
abbrev pub dwell_judged : AxisMeans → Block → Result Order Refusal
dwell_judged m b =
    move_asked m (rates_fit b && dwell_fits b)
    (asked (stays_on m.drive.place m.memory.table.rows) refusal.Course
    (asked (are_clear m.memory.levels.limits m.memory.table.rows) refusal.Limit
    (Ok (order.Dwell (run_of b)))))

-- Preset, from the fifth question on
abbrev pub preset_judged : Block → Result Order Refusal
preset_judged b = said (decoded b.place) (λ p. asked (is_position p) refusal.Range (Ok (order.Preset p)))

-- a segment in range is added
abbrev pub segment_asked : ℕ → AxisMeans → Numbers → Result Order Refusal
segment_asked g m n = asked (segment_fits g m n) refusal.Range (Ok (order.Segment (segment_of n)))

-- Segment, from the fifth question on
abbrev pub segment_judged : ℕ → AxisMeans → Block → Result Order Refusal
segment_judged g m b = then_ask (numbers_of b) (segment_asked g m)

-- a command that the state allows, from the fifth question on
abbrev pub values_judged : ℕ → AxisMeans → Block → Command → Result Order Refusal
values_judged g m b command.Absolute = absolute_judged g m b
values_judged g m b command.Relative = relative_judged g m b
values_judged g m b command.Hold = Ok order.Hold
values_judged g m b command.Resume = on_held (held_target m.memory.state) (resume_judged g m b)
values_judged g m b command.Stop = Ok order.Stop
values_judged g m b command.Preset = preset_judged b
values_judged g m b command.Reset = Ok (order.Reset (clears_trip_of b))
values_judged g m b command.Program = Ok order.Program
values_judged g m b command.Segment = segment_judged g m b
values_judged g m b command.Run = cond (is_dwell_of b) (dwell_judged m b) (blend_judged m b)
