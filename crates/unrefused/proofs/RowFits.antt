-- Tables that a drive can follow, and the rows of a dwell move.
use Rattle.std.proofs.Common.{◌≡◌, ℕ, zero, suc, ◌+◌, ◌*◌, ◌<◌, ◌≤◌, true, cond, not, eqb, ltb, leb, List, [], ◌∷◌, ◌++◌, map, length, get_or, drop, ℤ, pos, ◌+ℤ◌, nat_abs, sym, refl, ap, ◌∙◌, arith, length-append}
use lib.Signed.{lt_z}
use Rattle.std.proofs.lemmas.Int.{ints}
use Rattle.std.proofs.lemmas.Bool.{and_parts, and_from, leb-true, le-leb, le-ltb, ltb-true, ltb-false, cond_both}
use Rattle.drive.specs.Directions.{signed}
use Rattle.drive.specs.Drives.{DriveMeans}
use Rattle.drive.specs.Positions.{is_position, distance}
use Rattle.drive.specs.declared.direction.Direction.TheVariants.{Cw, Ccw}
use Rattle.profile.specs.Plans.{PlanMeans, Lawful, plan_steps}
use Rattle.profile.specs.Profiles.{ProfileMeans, Begun}
use Rattle.profile.specs.Rows.{steps_of, top_of, is_row, are_rows}
use Rattle.table.proofs.SegmentLaws.{no_segments, segments_more, stays_next}
use Rattle.table.specs.Courses.{goes_to, stays_on}
use Rattle.table.specs.Segments.{is_segment, are_segments, row_of, way_of}
use Rattle.table.specs.TablePlans.{no_segment, row_at, row_plan}
use Rattle.table.specs.Tables.{TableMeans, emptied, added, takes, has_room, closed}
use Rattle.table.specs.declared.segment.Segment.{Segment}
use Rattle.unrefused.proofs.Motions.{begins, begun_end}
use Rattle.axis.proofs.Readiness.{row_fits, segment_near}
use Rattle.unrefused.specs.Fits.{none_faster, TableFits, InMotion, end_of, RowsFit, InPause}
use Rattle.axis.specs.Stops.{row_after}
use Rattle.axis.specs.Ticks.{is_plan}
use Rattle.axis.specs.declared.order.DwellRow.{DwellRow}

-- no row is fast in an empty table, nor does one more slow row change that
none_fast : (v : ℕ) → none_faster v [] ≡ true
unfolding none_faster
none_fast v = refl

one_more : (v : ℕ) (ss : List Segment) (s : Segment) → none_faster v ss ≡ true → s.speed ≤ v → none_faster v (ss ++ s ∷ []) ≡ true
unfolding none_faster
one_more v [] s h k = and_from _ _ (le-leb s.speed v k) refl
one_more v (r ∷ ss) s h k = let p = and_parts (leb r.speed v) (none_faster v ss) h in and_from _ _ p.0 (one_more v ss s p.1 k)

pub empty_fits : (g S : ℕ) → 1 ≤ S → S ≤ 1000 * g → TableFits g (emptied S)
empty_fits g S a b =
    record { starts = (a, b); each = no_segments S; slow = none_fast (1000 * g); few = omega arith; enough = λ e. let z : ◌≡◌ {A = ℕ} 0 1 = cc in absurd (omega arith) }

pub added_fits : (g : ℕ) (t : TableMeans) (s : Segment) → TableFits g t → takes t s ≡ true → s.speed ≤ 1000 * g → TableFits g (added t s)
added_fits g t s f h k =
    let p = and_parts (has_room t) (is_segment t.start s) h in
    let room = ltb-true (length t.rows) 16 p.0 in
    record {
      starts = f.starts;
      each = segments_more t.start t.rows s f.each p.1;
      slow = one_more (1000 * g) t.rows s f.slow k;
      few = simp length-append (omega arith);
      enough = λ r. simp length-append (omega (arith, f.enough r));
    }

pub closed_fits : (g : ℕ) (t : TableMeans) → TableFits g t → TableFits g (closed t)
closed_fits g t f =
    let P : TableMeans → Type 0 = λ x. TableFits g x in
    cond_both (ltb (length t.rows) 2) (emptied t.start) (record { start = t.start; rows = t.rows; ready = true }) P
    (λ e. empty_fits g t.start f.starts.0 f.starts.1)
    (λ e. record { starts = f.starts; each = f.each; slow = f.slow; few = f.few; enough = λ r. ltb-false (length t.rows) 2 e })

-- no blend of the rows is faster than they are
pub tops_slow : (v : ℕ) (ss : List Segment) → none_faster v ss ≡ true → top_of (map row_of ss) ≤ v
unfolding none_faster top_of
tops_slow v [] h = omega arith
tops_slow v (s ∷ ss) h = let p = and_parts (leb s.speed v) (none_faster v ss) h in omega (arith, leb-true s.speed v p.0, tops_slow v ss p.1)

-- row i
segment_at : (S : ℕ) (ss : List Segment) (i : ℕ) → i < length ss → are_segments S ss ≡ true → is_segment S (get_or ss i no_segment) ≡ true
unfolding are_segments
segment_at S [] i l h = absurd (omega arith)
segment_at S (r ∷ ss) zero l h = (and_parts (is_segment S r) (are_segments S ss) h).0
segment_at S (r ∷ ss) (suc i) l h = segment_at S ss i (omega arith) (and_parts (is_segment S r) (are_segments S ss) h).1

slow_at : (v : ℕ) (ss : List Segment) (i : ℕ) → i < length ss → none_faster v ss ≡ true → (get_or ss i no_segment).speed ≤ v
unfolding none_faster
slow_at v [] i l h = absurd (omega arith)
slow_at v (r ∷ ss) zero l h = leb-true r.speed v (and_parts (leb r.speed v) (none_faster v ss) h).0
slow_at v (r ∷ ss) (suc i) l h = slow_at v ss i (omega arith) (and_parts (leb r.speed v) (none_faster v ss) h).1

-- the size of a segment, in its direction, leads as far as the segment
leads : (from d : ℤ) → from +ℤ signed (cond (lt_z d (pos 0)) Ccw Cw) (nat_abs d) ≡ from +ℤ d
leads from d =
    cond_both (lt_z d (pos 0)) Ccw Cw (λ way. from +ℤ signed way (nat_abs d) ≡ from +ℤ d) (λ e. grind (arith, ints)) (λ e. grind (arith, ints))

one_row_steps : (s : Segment) → steps_of (row_of s ∷ []) ≡ nat_abs s.distance
unfolding steps_of
one_row_steps s = omega arith

one_row_top : (s : Segment) → top_of (row_of s ∷ []) ≡ s.speed
unfolding top_of
one_row_top s = omega arith

one_row_fits : (S : ℕ) (s : Segment) → is_segment S s ≡ true → are_rows S (row_of s ∷ []) ≡ true
unfolding are_rows
one_row_fits S s h = and_from (is_row S (row_of s)) true (row_fits S s h) refl

-- numbers within the bounds of every plan make one
pub lawful_plan : (plan : PlanMeans) → Lawful plan → is_plan plan ≡ true
lawful_plan plan l =
    rw (
      le-ltb plan.start 1 l.starts,
      le-ltb plan.accel 1 l.gains.0,
      le-ltb 5000 plan.accel l.gains.1,
      le-ltb plan.decel 1 l.slows.0,
      le-ltb 5000 plan.decel l.slows.1,
      le-ltb (length plan.rows) 1 l.few.0,
      le-ltb 16 (length plan.rows) l.few.1,
      l.each,
      le-ltb 16777214 (plan_steps plan) l.near,
    )

-- the next row of a table that fits
module _ (g : ℕ) (d : DriveMeans) (t : TableMeans) (next : DwellRow) (fits : TableFits g t) (pause : InPause d t next) where
  abbrev row : Segment
  row = row_at t next.index

  abbrev plan : PlanMeans
  plan = row_plan t next.run.rates next.index

  pub row_lawful : Lawful plan
  row_lawful =
      let x = segment_at t.start t.rows next.index pause.within fits.each in
      record {
        starts = fits.starts.0;
        gains = pause.later.rates.gains;
        slows = pause.later.rates.slows;
        few = (omega arith, omega arith);
        each = one_row_fits t.start row x;
        near = omega (arith, one_row_steps row, segment_near t.start row x);
      }

  -- its course, and that of the rows after it
  stays : (goes_to d.place (d.place +ℤ row.distance) ≡ true) × (stays_on (d.place +ℤ row.distance) (drop (next.index + 1) t.rows) ≡ true)
  stays =
      and_parts (goes_to d.place (d.place +ℤ row.distance)) _
      (sym (stays_next d.place t.rows next.index no_segment pause.within) ∙ pause.later.stays)

  there : d.place +ℤ signed (way_of row) (plan_steps plan) ≡ d.place +ℤ row.distance
  there = ap (λ n. d.place +ℤ signed (way_of row) n) (one_row_steps row) ∙ leads d.place row.distance

  pub row_begins : (was p : ProfileMeans) → Begun was plan p → InMotion g (way_of row) d p
  row_begins was p b =
      let end = (and_parts (not (eqb (distance d.place (d.place +ℤ row.distance)) 0)) (is_position (d.place +ℤ row.distance)) stays.0).1 in
      begins g (way_of row) d plan was p b pause.untripped
      (omega (arith, one_row_top row, slow_at (1000 * g) t.rows next.index pause.within fits.slow))
      (ap is_position there ∙ end)

  pub row_leaves : (was p : ProfileMeans) → Begun was plan p → RowsFit t (row_after next) (end_of (way_of row) d p)
  row_leaves was p b =
      record {
        rates = pause.later.rates;
        stays = ap (λ z. stays_on z (drop (next.index + 1) t.rows)) (begun_end (way_of row) d plan was p b ∙ there) ∙ stays.1;
      }
