-- What holds of the rows of a table, and of their course.
use Rattle.std.proofs.Common.{◌≡◌, ℕ, ◌+◌, ◌*◌, ◌<◌, ◌≤◌, Bool, true, false, cond, not, ◌&&◌, eqb, List, [], ◌∷◌, ◌++◌, map, length, get_or, drop, ℤ, ◌+ℤ◌, nat_abs, Bor, Iter, Some, None, Option, is_some, MatchOption, sym, refl, ap, ◌∙◌, arith}
use Rattle.std.proofs.lemmas.Fn.{fronts}
use Rattle.std.proofs.lemmas.List.{at_drop_more, nil_from_length}
use Rattle.std.proofs.lemmas.Bool.{and_parts, and_from, leb-true, le-leb}
use Rattle.drive.specs.Positions.{is_position}
use Rattle.profile.specs.Rows.{steps_of}
use Rattle.std.specs.Iterator.{Yields, YieldsThen}
use Rattle.std.specs.List.{FoldsTo}
use Rattle.table.specs.Courses.{goes_to, leg_end, stays_on}
use Rattle.table.specs.Segments.{is_segment, are_segments, is_enough, row_of}
use Rattle.table.specs.declared.segment.Segment.{Segment}

-- no rows are segments of any table
pub no_segments : (S : ℕ) → are_segments S [] ≡ true
unfolding are_segments
no_segments S = refl

-- nor does one more row spoil it
pub segments_more : (S : ℕ) (ss : List Segment) (s : Segment) → are_segments S ss ≡ true → is_segment S s ≡ true → are_segments S (ss ++ s ∷ []) ≡ true
unfolding are_segments
segments_more S [] s h k = and_from _ _ k refl
segments_more S (r ∷ ss) s h k = let p = and_parts (is_segment S r) (are_segments S ss) h in and_from _ _ p.0 (segments_more S ss s p.1 k)

-- nor makes it a ready table too short
pub more_enough : (ready : Bool) (n : ℕ) → is_enough ready n ≡ true → is_enough ready (n + 1) ≡ true
more_enough true n h = le-leb 2 (n + 1) (omega (arith, leb-true 2 n h))
more_enough false n h = refl

-- a segment is no longer than the farthest position
pub sizes_few : (S : ℕ) (ss : List Segment) → are_segments S ss ≡ true → steps_of (map row_of ss) ≤ 8388607 * length ss
unfolding are_segments steps_of
sizes_few S [] h = omega arith
sizes_few S (s ∷ ss) h =
    let p = and_parts (is_segment S s) (are_segments S ss) h in
    let q = and_parts (not (eqb (nat_abs s.distance) 0)) _ p.0 in
    let r = and_parts (is_position s.distance) _ q.1 in
    omega (arith, leb-true (nat_abs s.distance) 8388607 r.0, sizes_few S ss p.1)

-- one turn along a course
pub stays_next :
    (at : ℤ) (rows : List Segment) (i : ℕ) (d : Segment) → i < length rows
    → stays_on at (drop i rows) ≡ (goes_to at (at +ℤ (get_or rows i d).distance) && stays_on (at +ℤ (get_or rows i d).distance) (drop (i + 1) rows))
unfolding stays_on
stays_next at rows i d h = at_drop_more (stays_on at) rows i d h

-- a row that leads somewhere, and one that does not
leads_on : (at to : ℤ) (s : Segment) (ss : List Segment) → leg_end at s.distance ≡ Some to → stays_on at (s ∷ ss) ≡ stays_on to ss
unfolding stays_on
leads_on at to s ss e = on (goes_to at (at +ℤ s.distance)) (at +ℤ s.distance) e
  where
    on : (b : Bool) (x : ℤ) → cond b (Some x) None ≡ Some to → (b && stays_on x ss) ≡ stays_on to ss
    on true x h = cc
    on false x h = cc

leads_off : (at : ℤ) (s : Segment) (ss : List Segment) → leg_end at s.distance ≡ None → stays_on at (s ∷ ss) ≡ false
unfolding stays_on
leads_off at s ss e = off (goes_to at (at +ℤ s.distance)) (at +ℤ s.distance) e
  where
    off : (b : Bool) (x : ℤ) → cond b (Some x) None ≡ None → (b && stays_on x ss) ≡ false
    off true x h = cc
    off false x h = refl

-- the course goes on from where the leg ends
pub stays_further :
    (at to : ℤ) (rows : List Segment) (i : ℕ) (d : Segment) (all : Bool) → i < length rows → Some to ≡ leg_end at (get_or rows i d).distance
    → stays_on at (drop i rows) ≡ all → stays_on to (drop (i + 1) rows) ≡ all
stays_further at to rows i d all h e f =
    sym (leads_on at to (get_or rows i d) (drop (i + 1) rows) (sym e)) ∙ (sym (at_drop_more (stays_on at) rows i d h) ∙ f)

-- a course that is asked row by row, each turn from where the one before led to
module _ {P : Type 0} (turn : P × ℤ → Bor Segment → P × ℤ → Type 0) (leads : (p q : P × ℤ) (x : Bor Segment) → turn p x q → leg_end p.1 x.now.distance ≡ Some q.1) where
  walked :
      (xs : List (Bor Segment)) (s t : Iter Segment) (p q : P × ℤ) → Yields fronts s xs t → FoldsTo turn p xs q
      → stays_on p.1 s.rest.now ≡ stays_on q.1 t.rest.now
  walked [] s t p q y f = cc
  walked (x ∷ xs) s t p q y f =
      ap (stays_on p.1) y.1 ∙ (leads_on p.1 f.0.1 x.now y.0.rest.now (leads p f.0 x f.1) ∙ walked xs y.0 t f.0 q y.2 f.2)

  pub asked :
      (xs : List (Bor Segment)) (o : Option (Bor Segment)) (s u : Iter Segment) (p q : P × ℤ) (r : Option ℤ) (Stops : Bor Segment → Type 0)
      → YieldsThen fronts s xs o u → FoldsTo turn p xs q → ((x : Bor Segment) → Stops x → (r ≡ None) × (leg_end q.1 x.now.distance ≡ None))
      → MatchOption o (r ≡ Some q.1) Stops → is_some r ≡ stays_on p.1 s.rest.now
  unfolding stays_on
  asked xs None s u p q r Stops y f h m =
      ap is_some m ∙ sym (walked xs s y.0 p q y.1 f ∙ ap (stays_on q.1) (nil_from_length y.0.rest.now y.2.0))
  asked xs (Some x) s u p q r Stops y f h m =
      let w = h x m in
      ap is_some w.0 ∙ sym (walked xs s y.0 p q y.1 f ∙ (ap (stays_on q.1) y.2 ∙ leads_off q.1 x.now u.rest.now w.1))
