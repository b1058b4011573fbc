-- What a block orders can be carried out: its plan is a plan, its place a position, its row one that the table takes.
use Rattle.std.proofs.Common.{◌≡◌, ℕ, ◌*◌, ◌≤◌, true, not, ◌&&◌, ◌||◌, eqb, leb, List, [], ◌∷◌, map, length, get_or, ℤ, pos, ◌+ℤ◌, nat_abs, Ok, sym, refl, ap, ◌∙◌, arith}
use lib.ListN.{length-map}
use Rattle.std.proofs.lemmas.Int.{ints}
use Rattle.std.proofs.lemmas.Bool.{and_parts, and_from, not-true, eqb-false, leb-true, le-leb}
use Rattle.drive.proofs.Landings.{distance_near}
use Rattle.drive.specs.Directions.{signed}
use Rattle.drive.specs.Positions.{is_position, distance}
use Rattle.drive.specs.declared.direction.Direction.{Direction}
use Rattle.drive.specs.declared.direction.Direction.TheVariants.{Cw, Ccw}
use Rattle.profile.specs.Plans.{Lawful}
use Rattle.profile.specs.Rows.{steps_of, is_row, are_rows}
use Rattle.block.specs.Commands.{commanded}
use Rattle.block.specs.Frames.{direction_of}
use Rattle.block.specs.declared.frame.Block.{Block}
use Rattle.table.specs.Courses.{goes_to}
use Rattle.table.specs.Segments.{is_segment, are_segments, row_of}
use Rattle.table.specs.TablePlans.{no_segment, blend_plan, row_plan}
use Rattle.table.specs.Tables.{table_means, has_room, takes}
use Rattle.table.specs.declared.segment.Segment.{Segment}
use Rattle.table.specs.declared.table.Table.{Table}
use Rattle.axis.proofs.Orders.{Follows, order_follows}
use Rattle.axis.specs.Axes.{AxisMeans}
use Rattle.axis.specs.Carrying.{Ready}
use Rattle.axis.specs.Questions.{programs, in_range, speed_fits, rate_fits, rates_fit, pace_fits, distance_fits, segment_fits, rates_of, single_of, segment_of, order_by}
use Rattle.axis.specs.Plans.{single_plan, blend_end}
use Rattle.axis.specs.declared.numbers.Numbers.{Numbers}
use Rattle.axis.specs.declared.order.Order.{Order}

-- what the types of an axis say of its meaning, over a drive that goes at most g steps at once
pub record Sane (g : ℕ) (m : AxisMeans) : Type 0 where
  pub reach : g ≤ 200
  pub placed : is_position m.drive.place ≡ true
  pub starts : (1 ≤ m.memory.table.start) × (m.memory.table.start ≤ 200000)
  pub each : are_segments m.memory.table.start m.memory.table.rows ≡ true
  pub few : length m.memory.table.rows ≤ 16
  pub enough : m.memory.table.ready ≡ true → 2 ≤ length m.memory.table.rows

-- a table is ready with two rows at least
pub rows_enough : (t : Table) → t.ready ≡ true → 2 ≤ length (table_means t).rows
rows_enough t r =
    let n : ℕ = length t.rows.items in
    leb-true 2 n (ap (λ b. not b || leb 2 n) (sym r) ∙ t.enough)

pub within : (low high : ℕ) (z : ℤ) → in_range (pos low) (pos high) z ≡ true → (low ≤ nat_abs z) × (nat_abs z ≤ high)
within low high z e = (grind (arith, ints), grind (arith, ints))

pub some_way : (a b : ℤ) → goes_to a b ≡ true → (1 ≤ distance a b) × (is_position b ≡ true)
some_way a b e =
    let p = and_parts (not (eqb (distance a b) 0)) (is_position b) e in
    let far = eqb-false (distance a b) 0 (not-true _ p.0) in
    (omega (arith, far), p.1)

-- a segment makes a row of a plan, no longer than a position
pub row_fits : (S : ℕ) (r : Segment) → is_segment S r ≡ true → is_row S (row_of r) ≡ true
row_fits S r h =
    let p = and_parts (not (eqb (nat_abs r.distance) 0)) _ h in
    let q = and_parts (is_position r.distance) _ p.1 in
    let far = eqb-false (nat_abs r.distance) 0 (not-true _ p.0) in
    let some : 1 ≤ nat_abs r.distance = omega (arith, far) in
    and_from (leb 1 (nat_abs r.distance)) _ (le-leb 1 (nat_abs r.distance) some) q.1

pub segment_near : (S : ℕ) (r : Segment) → is_segment S r ≡ true → nat_abs r.distance ≤ 8388607
segment_near S r h =
    let p = and_parts (not (eqb (nat_abs r.distance) 0)) _ h in
    leb-true (nat_abs r.distance) 8388607 (and_parts (is_position r.distance) _ p.1).0

module _ (g : ℕ) (m : AxisMeans) (s : Sane g m) where
  rates : (b : Block) → rates_fit b ≡ true → ((1 ≤ (rates_of b).accel) × ((rates_of b).accel ≤ 5000)) × ((1 ≤ (rates_of b).decel) × ((rates_of b).decel ≤ 5000))
  unfolding rates_fit rate_fits
  rates b e = let p = and_parts _ _ e in (within 1 5000 b.accel p.0, within 1 5000 b.decel p.1)

  speed : (v : ℤ) → speed_fits g m v ≡ true → (m.memory.table.start ≤ nat_abs v) × (nat_abs v ≤ 200000)
  unfolding speed_fits
  speed v e = let p = within m.memory.table.start (1000 * g) v e in (p.0, omega (arith, p.1, s.reach))

  leg_lawful : (numbers : Numbers) → pace_fits g m numbers ≡ true → goes_to m.drive.place numbers.place ≡ true → Lawful (single_plan m (single_of numbers))
  unfolding pace_fits are_rows steps_of
  leg_lawful numbers e h =
      let target = numbers.place in
      let v = numbers.speed in
      let p = and_parts (speed_fits g m v) (rates_fit numbers.block) e in
      let a = rates numbers.block p.1 in
      let q = speed v p.0 in
      let w = some_way m.drive.place target h in
      let n = distance m.drive.place target in
      record {
        starts = s.starts.0;
        gains = a.0;
        slows = a.1;
        few = (omega arith, omega arith);
        each = rw (le-leb 1 n w.0, le-leb m.memory.table.start (nat_abs v) q.0, le-leb (nat_abs v) 200000 q.1);
        near = omega (arith, distance_near m.drive.place target s.placed w.1);
      }

  -- the rows of a table make rows of a plan
  rows_fit : (S : ℕ) (ss : List Segment) → are_segments S ss ≡ true → are_rows S (map row_of ss) ≡ true
  unfolding are_segments are_rows
  rows_fit S [] h = refl
  rows_fit S (r ∷ ss) h =
      let p = and_parts (is_segment S r) (are_segments S ss) h in
      and_from (is_row S (row_of r)) _ (row_fits S r p.0) (rows_fit S ss p.1)

  -- what a blend goes is between two positions
  blend_near : (way : Direction) (n : ℕ) → is_position (m.drive.place +ℤ signed way n) ≡ true → n ≤ 16777214
  blend_near Cw n h = omega (arith, ints, leb-true _ _ s.placed, leb-true _ _ h)
  blend_near Ccw n h = omega (arith, ints, leb-true _ _ s.placed, leb-true _ _ h)

  blend_lawful : (b : Block) → rates_fit b ≡ true → m.memory.table.ready ≡ true → is_position (blend_end m (direction_of b)) ≡ true → Lawful (blend_plan m.memory.table (rates_of b))
  blend_lawful b e r h =
      let a = rates b e in
      record {
        starts = s.starts.0;
        gains = a.0;
        slows = a.1;
        few = (omega (arith, s.enough r, length-map m.memory.table.rows row_of), omega (arith, s.few, length-map m.memory.table.rows row_of));
        each = rows_fit m.memory.table.start m.memory.table.rows s.each;
        near = blend_near (direction_of b) (steps_of (map row_of m.memory.table.rows)) h;
      }

  -- the first row of a table that has one
  first_fits : (S : ℕ) (ss : List Segment) → 2 ≤ length ss → are_segments S ss ≡ true → is_segment S (get_or ss 0 no_segment) ≡ true
  unfolding are_segments
  first_fits S [] l h = absurd (omega arith)
  first_fits S (r ∷ ss) l h = (and_parts (is_segment S r) (are_segments S ss) h).0

  row_lawful : (b : Block) → rates_fit b ≡ true → m.memory.table.ready ≡ true → Lawful (row_plan m.memory.table (rates_of b) 0)
  unfolding are_rows steps_of
  row_lawful b e r =
      let a = rates b e in
      let x = get_or m.memory.table.rows 0 no_segment in
      let f = first_fits m.memory.table.start m.memory.table.rows (s.enough r) s.each in
      record {
        starts = s.starts.0;
        gains = a.0;
        slows = a.1;
        few = (omega arith, omega arith);
        each = and_from (is_row m.memory.table.start (row_of x)) true (row_fits m.memory.table.start x f) refl;
        near = omega (arith, segment_near m.memory.table.start x f);
      }

  segment_taken :
      (n : Numbers) → (programs m.memory.state && has_room m.memory.table) ≡ true → segment_fits g m n ≡ true
      → takes m.memory.table (segment_of n) ≡ true
  unfolding distance_fits
  segment_taken n a h =
      let d = n.place in
      let v = n.speed in
      let c = and_parts (distance_fits d) (speed_fits g m v) h in
      let w = and_parts (not (eqb (nat_abs d) 0)) (is_position d) c.0 in
      let q = speed v c.1 in
      and_from (has_room m.memory.table) _ (and_parts (programs m.memory.state) _ a).1
      (and_from (not (eqb (nat_abs d) 0)) _ w.0
      (and_from (is_position d) _ w.1
      (and_from (leb m.memory.table.start (nat_abs v)) _ (le-leb _ _ q.0) (le-leb _ _ q.1))))

  -- what a block orders can be carried out
  pub ready : Follows g m (Ready m)
  ready =
      record {
        nothing = tt;
        go = λ n p i w. leg_lawful n p w;
        hold = tt;
        stop = tt;
        preset = λ x h. h;
        reset = λ trip. tt;
        program = tt;
        segment = λ n a h. segment_taken n a h;
        blend = λ b p i r w. blend_lawful b p r (some_way m.drive.place (blend_end m (direction_of b)) w).1;
        dwell = λ b p i r w. row_lawful b p r;
      }

  -- and so can each order that its questions give
  pub judged_ready : (rising : ℕ) (b : Block) (o : Order) → order_by g m b (commanded rising) ≡ Ok o → Ready m o
  judged_ready rising b o e = order_follows g m (Ready m) ready b (commanded rising) o e
