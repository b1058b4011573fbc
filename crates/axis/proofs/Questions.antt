-- What a block is judged to, question after question, is its order by the list of the questions.
use Rattle.std.proofs.Common.{◌≡◌, ℕ, Bool, true, false, cond, not, ◌&&◌, ◌||◌, ℤ, nat_abs, leb, is_some, Some, None, Ok, Option, Result, refl, ap, ◌∙◌, subst}
use Rattle.drive.specs.Directions.{toward}
use Rattle.drive.specs.Positions.{is_position}
use Rattle.drive.specs.declared.direction.Direction.{Direction}
use Rattle.block.specs.Frames.{is_dwell_of, direction_of}
use Rattle.block.specs.Pairs.{opposite, joined, decoded}
use Rattle.block.specs.declared.command.Command.{Command}
use Rattle.block.specs.declared.command.Command.TheVariants as command
use Rattle.block.specs.declared.frame.Block.{Block}
use Rattle.block.specs.declared.pair.Pair.{Pair}
use Rattle.block.specs.declared.refusal.Refusal.{Refusal}
use Rattle.block.specs.declared.refusal.Refusal.TheVariants as refusal
use Rattle.table.specs.Courses.{goes_to, stays_on, is_clear, are_clear}
use Rattle.axis.specs.Axes.{AxisMeans}
use Rattle.axis.specs.Judging.{asked, then_ask, said, numbers_of, on_held, on_its_course, go_judged, may_move, move_asked, single_asked, valid_asked, absolute_asked, relative_asked, segment_asked, resume_judged, blend_judged, dwell_judged, values_judged}
use Rattle.axis.specs.Plans.{blend_end}
use Rattle.axis.specs.Questions.{held_target, allowed, is_pair, numbers_in, led_to, to_place, inhibited, rates_fit, dwell_fits, pace_fits, rates_of, run_of, single_of, first_no, questions, order_for}
use Rattle.axis.specs.declared.numbers.Numbers.{Numbers}
use Rattle.axis.specs.declared.order.Order.{Order}
use Rattle.axis.specs.declared.order.Order.TheVariants as order

-- two questions with one refusal
both : {X : Type 0} (a c : Bool) (why : Refusal) (next : Result X Refusal) → asked a why (asked c why next) ≡ asked (a && c) why next
both true c why next = refl
both false c why next = refl

-- a pair, or both
said_is : {X : Type 0} (p : Pair) (next : ℤ → Result X Refusal) → said (decoded p) next ≡ asked (is_pair p) refusal.Pair (next (joined p.first p.second))
said_is p next = on (opposite p.first p.second || leb 1000 (nat_abs p.second))
  where
    on : (x : Bool)
        → said (cond x None (Some (joined p.first p.second))) next ≡ asked (is_some (cond x None (Some (joined p.first p.second)))) refusal.Pair (next (joined p.first p.second))
    on true = refl
    on false = refl

numbers_are : {X : Type 0} (b : Block) (next : Numbers → Result X Refusal) → then_ask (numbers_of b) next ≡ asked (is_pair b.place && is_pair b.speed) refusal.Pair (next (numbers_in b))
unfolding numbers_of
numbers_are b next =
    on (opposite b.place.first b.place.second || leb 1000 (nat_abs b.place.second)) (opposite b.speed.first b.speed.second || leb 1000 (nat_abs b.speed.second))
  where
    on : (x y : Bool)
        → then_ask (said (cond x None (Some (joined b.place.first b.place.second))) (λ place. said (cond y None (Some (joined b.speed.first b.speed.second))) (λ v. Ok (record { block = b; place = place; speed = v })))) next
        ≡ asked (is_some (cond x None (Some (joined b.place.first b.place.second))) && is_some (cond y None (Some (joined b.speed.first b.speed.second)))) refusal.Pair (next (numbers_in b))
    on true y = refl
    on false true = refl
    on false false = refl

-- what every move is asked, and a move on its course
move_is : (m : AxisMeans) (fits : Bool) (next : Result Order Refusal) → move_asked m fits next ≡ asked fits refusal.Range (asked (not (inhibited m)) refusal.Inhibited next)
unfolding may_move
move_is m fits next = on fits (not (inhibited m))
  where
    on : (a c : Bool) → asked a refusal.Range (then_ask (asked c refusal.Inhibited (Ok (tt {0}))) (λ done. next)) ≡ asked a refusal.Range (asked c refusal.Inhibited next)
    on true true = refl
    on true false = refl
    on false c = refl

course_is : (m : AxisMeans) (target : ℤ) (way : Direction) (o : Order)
    → on_its_course m target way o ≡ asked (goes_to m.drive.place target) refusal.Course (asked (is_clear m.memory.levels.limits way) refusal.Limit (Ok o))
course_is m target way o = on (goes_to m.drive.place target) (is_clear m.memory.levels.limits way)
  where
    on : (a c : Bool) → then_ask (asked a refusal.Course (asked c refusal.Limit (Ok (tt {0})))) (λ done. Ok o) ≡ asked a refusal.Course (asked c refusal.Limit (Ok o))
    on true true = refl
    on true false = refl
    on false c = refl

module _ (g : ℕ) (m : AxisMeans) (b : Block) where
  -- the last two questions of a move of one plan
  abbrev last_asked : ℤ → Direction → Order → Result Order Refusal
  last_asked target way o = asked (goes_to m.drive.place target) refusal.Course (asked (is_clear m.memory.levels.limits way) refusal.Limit (Ok o))

  single_is : (n : Numbers)
      → single_asked g m n
      ≡ asked (pace_fits g m n) refusal.Range (asked (not (inhibited m)) refusal.Inhibited (last_asked n.place (toward m.drive.place n.place) (order.Go (single_of n))))
  unfolding go_judged
  single_is n =
      move_is m (pace_fits g m n) _
      ∙ ap (λ r. asked (pace_fits g m n) refusal.Range (asked (not (inhibited m)) refusal.Inhibited r)) (course_is m n.place (toward m.drive.place n.place) (order.Go (single_of n)))

  valid_is : (n : Numbers)
      → valid_asked g m n
      ≡ asked (pace_fits g m n) refusal.Range (asked (not (inhibited m)) refusal.Inhibited (asked (not m.memory.flags.invalid) refusal.PositionInvalid (last_asked n.place (toward m.drive.place n.place) (order.Go (single_of n)))))
  unfolding go_judged
  valid_is n =
      move_is m (pace_fits g m n) _
      ∙ ap (λ r. asked (pace_fits g m n) refusal.Range (asked (not (inhibited m)) refusal.Inhibited (asked (not m.memory.flags.invalid) refusal.PositionInvalid r))) (course_is m n.place (toward m.drive.place n.place) (order.Go (single_of n)))

  resume_is : (t : Option ℤ)
      → asked (is_some t) refusal.State (on_held t (resume_judged g m b))
      ≡ asked (is_some t) refusal.State (asked (is_pair b.speed) refusal.Pair (asked (pace_fits g m (numbers_in b)) refusal.Range (asked (not (inhibited m)) refusal.Inhibited (asked (elim t [ None ↦ true | Some target ↦ goes_to m.drive.place target ]) refusal.Course (asked (elim t [ None ↦ true | Some target ↦ is_clear m.memory.levels.limits (toward m.drive.place target) ]) refusal.Limit (Ok (elim t [ None ↦ order.Nothing | Some target ↦ order.Go (single_of (to_place (numbers_in b) target)) ])))))))
  unfolding pace_fits
  resume_is None = refl
  resume_is (Some target) =
      said_is b.speed (λ v. single_asked g m (record { block = b; place = target; speed = v }))
      ∙ ap (λ r. asked (is_pair b.speed) refusal.Pair r) (single_is (to_place (numbers_in b) target))

  run_is : (dwell : Bool)
      → cond dwell (dwell_judged m b) (blend_judged m b)
      ≡ asked (cond dwell (rates_fit b && dwell_fits b) (rates_fit b)) refusal.Range (asked (not (inhibited m)) refusal.Inhibited (asked (cond dwell (stays_on m.drive.place m.memory.table.rows) (goes_to m.drive.place (blend_end m (direction_of b)))) refusal.Course (asked (cond dwell (are_clear m.memory.levels.limits m.memory.table.rows) (is_clear m.memory.levels.limits (direction_of b))) refusal.Limit (Ok (cond dwell (order.Dwell (run_of b)) (order.Blend (direction_of b) (rates_of b)))))))
  run_is true = move_is m (rates_fit b && dwell_fits b) _
  run_is false =
      move_is m (rates_fit b) _
      ∙ ap (λ r. asked (rates_fit b) refusal.Range (asked (not (inhibited m)) refusal.Inhibited r)) (course_is m (blend_end m (direction_of b)) (direction_of b) (order.Blend (direction_of b) (rates_of b)))

  -- a command, from the fourth question on
  is_order : (c : Command) → asked (allowed m c) refusal.State (values_judged g m b c) ≡ first_no (questions g m b c) (order_for m b c)
  unfolding pace_fits
  is_order command.Absolute =
      let n = numbers_in b in
      ap (λ r. asked (allowed m command.Absolute) refusal.State r)
      (numbers_are b (absolute_asked g m)
      ∙ ap (λ r. asked (is_pair b.place && is_pair b.speed) refusal.Pair r)
      (ap (λ r. asked (is_position n.place) refusal.Range r) (valid_is n) ∙ both (is_position n.place) (pace_fits g m n) refusal.Range _))
  is_order command.Relative =
      let n = numbers_in b in
      ap (λ r. asked (allowed m command.Relative) refusal.State r)
      (numbers_are b (relative_asked g m)
      ∙ ap (λ r. asked (is_pair b.place && is_pair b.speed) refusal.Pair r)
      (ap (λ r. asked (is_position n.place) refusal.Range r) (single_is (led_to m n)) ∙ both (is_position n.place) (pace_fits g m n) refusal.Range _))
  is_order command.Hold = refl
  is_order command.Resume = resume_is (held_target m.memory.state)
  is_order command.Stop = refl
  is_order command.Preset =
      ap (λ r. asked (allowed m command.Preset) refusal.State r) (said_is b.place (λ p. asked (is_position p) refusal.Range (Ok (order.Preset p))))
  is_order command.Reset = refl
  is_order command.Program = refl
  is_order command.Segment = ap (λ r. asked (allowed m command.Segment) refusal.State r) (numbers_are b (segment_asked g m))
  is_order command.Run = ap (λ r. asked (allowed m command.Run) refusal.State r) (run_is (is_dwell_of b))

  -- the same, once the state allows it
  pub values_are : (c : Command) → allowed m c ≡ true → values_judged g m b c ≡ first_no (questions g m b c) (order_for m b c)
  values_are c a = subst (λ q. asked q refusal.State (values_judged g m b c) ≡ first_no (questions g m b c) (order_for m b c)) a (is_order c)
