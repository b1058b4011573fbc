-- What the questions of a block say of its order.
use Rattle.std.proofs.Common.{◌≡◌, ℕ, Bool, true, false, cond, not, ◌&&◌, ℤ, Some, None, Ok, Err, Option, Result, is_some, refl, sym, subst}
use Rattle.std.proofs.lemmas.Bool.{and_parts}
use Rattle.drive.specs.Positions.{is_position}
use Rattle.block.specs.Frames.{is_dwell_of, direction_of, clears_trip_of}
use Rattle.block.specs.declared.command.Command.{Command}
use Rattle.block.specs.declared.command.Command.TheVariants as command
use Rattle.block.specs.declared.frame.Block.{Block}
use Rattle.block.specs.declared.refusal.Refusal.{Refusal}
use Rattle.block.specs.declared.refusal.Refusal.TheVariants as refusal
use Rattle.table.specs.Courses.{goes_to, stays_on}
use Rattle.table.specs.Tables.{has_room}
use Rattle.axis.specs.Axes.{AxisMeans}
use Rattle.axis.specs.Questions.{rests, programs, held_target, allowed, numbers_in, to_place, led_to, rates_fit, dwell_fits, pace_fits, segment_fits, pairs_obey, values_fit, inhibited, may_go, is_valid, course_fits, limits_off, first_no, questions, rates_of, single_of, segment_of, run_of, order_for, order_by}
use Rattle.axis.specs.Plans.{blend_end}
use Rattle.axis.specs.declared.numbers.Numbers.{Numbers}
use Rattle.axis.specs.declared.order.Order.{Order}
use Rattle.axis.specs.declared.order.Order.TheVariants as order

-- a refusal is no order
none_so : {X : Type 0} (why : Refusal) (x : X) → ◌≡◌ {A = Result X Refusal} (Err why) (Ok x) → ⊥
none_so why x e = cc

-- a question that was passed
passes : {X : Type 0} (q : Bool) (why : Refusal) (next : Result X Refusal) (x : X) → cond q next (Err why) ≡ Ok x → (q ≡ true) × (next ≡ Ok x)
passes true why next x e = (refl, e)
passes false why next x e = absurd (none_so why x e)

-- what is used of a command that is accepted, whose every answer is yes: four of the answers, and its order
pub record Accepted (g : ℕ) (m : AxisMeans) (b : Block) (c : Command) (o : Order) : Type 0 where
  pub state : allowed m c ≡ true
  pub fits : values_fit g m b c ≡ true
  pub goes : may_go m c ≡ true
  pub course : course_fits m b c ≡ true
  pub is : o ≡ order_for m b c

pub accepted : (g : ℕ) (m : AxisMeans) (b : Block) (c : Command) (o : Order) → first_no (questions g m b c) (order_for m b c) ≡ Ok o → Accepted g m b c o
accepted g m b c o e =
    let state = passes (allowed m c) refusal.State _ o e in
    let pair = passes (pairs_obey b c) refusal.Pair _ o state.1 in
    let fits = passes (values_fit g m b c) refusal.Range _ o pair.1 in
    let goes = passes (may_go m c) refusal.Inhibited _ o fits.1 in
    let valid = passes (is_valid m c) refusal.PositionInvalid _ o goes.1 in
    let course = passes (course_fits m b c) refusal.Course _ o valid.1 in
    let clear = passes (limits_off m b c) refusal.Limit _ o course.1 in
    record { state = state.0; fits = fits.0; goes = goes.0; course = course.0; is = same (order_for m b c) o clear.1 }
  where
    same : (x y : Order) → ◌≡◌ {A = Result Order Refusal} (Ok x) (Ok y) → y ≡ x
    same x y q = cc

-- Q of every order that a block may give, by what was asked of it
pub record Follows (g : ℕ) (m : AxisMeans) (Q : Order → Type 0) : Type 0 where
  pub nothing : Q order.Nothing
  pub go :
      (n : Numbers) → pace_fits g m n ≡ true → not (inhibited m) ≡ true → goes_to m.drive.place n.place ≡ true
      → Q (order.Go (single_of n))
  pub hold : Q order.Hold
  pub stop : Q order.Stop
  pub preset : (x : ℤ) → is_position x ≡ true → Q (order.Preset x)
  pub reset : (trip : Bool) → Q (order.Reset trip)
  pub program : Q order.Program
  pub segment :
      (n : Numbers) → (programs m.memory.state && has_room m.memory.table) ≡ true → segment_fits g m n ≡ true
      → Q (order.Segment (segment_of n))
  pub blend :
      (b : Block) → rates_fit b ≡ true → not (inhibited m) ≡ true → m.memory.table.ready ≡ true
      → goes_to m.drive.place (blend_end m (direction_of b)) ≡ true → Q (order.Blend (direction_of b) (rates_of b))
  pub dwell :
      (b : Block) → rates_fit b ≡ true → not (inhibited m) ≡ true → m.memory.table.ready ≡ true
      → stays_on m.drive.place m.memory.table.rows ≡ true → Q (order.Dwell (run_of b))

module _ (g : ℕ) (m : AxisMeans) (Q : Order → Type 0) (f : Follows g m Q) (b : Block) where
  resume_follows : (t : Option ℤ)
      → is_some t ≡ true → pace_fits g m (numbers_in b) ≡ true → not (inhibited m) ≡ true
      → elim t [ None ↦ true | Some target ↦ goes_to m.drive.place target ] ≡ true
      → Q (elim t [ None ↦ order.Nothing | Some target ↦ order.Go (single_of (to_place (numbers_in b) target)) ])
  unfolding pace_fits
  resume_follows None a p i w = f.nothing
  resume_follows (Some target) a p i w = f.go (to_place (numbers_in b) target) p i w

  run_follows : (dwell : Bool)
      → cond dwell (rates_fit b && dwell_fits b) (rates_fit b) ≡ true → not (inhibited m) ≡ true → m.memory.table.ready ≡ true
      → cond dwell (stays_on m.drive.place m.memory.table.rows) (goes_to m.drive.place (blend_end m (direction_of b))) ≡ true
      → Q (cond dwell (order.Dwell (run_of b)) (order.Blend (direction_of b) (rates_of b)))
  run_follows true p i r w = f.dwell b (and_parts (rates_fit b) (dwell_fits b) p).0 i r w
  run_follows false p i r w = f.blend b p i r w

  command_follows : (c : Command) (o : Order) → Accepted g m b c o → Q (order_for m b c)
  unfolding pace_fits
  command_follows command.Absolute o a = f.go (numbers_in b) (and_parts (is_position (numbers_in b).place) _ a.fits).1 a.goes a.course
  command_follows command.Relative o a = f.go (led_to m (numbers_in b)) (and_parts (is_position (numbers_in b).place) _ a.fits).1 a.goes a.course
  command_follows command.Hold o a = f.hold
  command_follows command.Resume o a = resume_follows (held_target m.memory.state) a.state a.fits a.goes a.course
  command_follows command.Stop o a = f.stop
  command_follows command.Preset o a = f.preset (numbers_in b).place a.fits
  command_follows command.Reset o a = f.reset (clears_trip_of b)
  command_follows command.Program o a = f.program
  command_follows command.Segment o a = f.segment (numbers_in b) a.state a.fits
  command_follows command.Run o a =
      run_follows (is_dwell_of b) a.fits a.goes (and_parts (not m.memory.flags.configuration) m.memory.table.ready (and_parts (rests m.memory.state) _ a.state).1).1 a.course

  -- an order of a block
  pub order_follows : (r : Result (Option Command) Refusal) (o : Order) → order_by g m b r ≡ Ok o → Q o
  order_follows (Err why) o e = absurd (none_so why o e)
  order_follows (Ok None) o e = let same : order.Nothing ≡ o = cc in subst Q same f.nothing
  order_follows (Ok (Some c)) o e = let a = accepted g m b c o e in subst Q (sym a.is) (command_follows c o a)
