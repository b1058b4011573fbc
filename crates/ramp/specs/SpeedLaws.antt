-- The speed at a millistep: what a loop over the rows takes from turn to turn, and its bounds in a plan.
use Rattle.std.specs.Prelude.{◌≡◌, ℕ, zero, suc, ◌+◌, ◌-◌, ◌*◌, ◌<◌, ◌≤◌, true, List, [], ◌∷◌, length, take, sum_by, slice_index_or}
use Rattle.std.proofs.Common.{refl, ◌∙◌, arith}
use Rattle.std.proofs.lemmas.Bool.{lt-ltb, le-ltb}
use Rattle.std.proofs.lemmas.List.Recursion.{is_sum_by}
use Rattle.profile.specs.Rows.{are_rows, steps_of, top_of}
use Rattle.profile.specs.declared.row.Row.{Row}
use Rattle.profile.specs.RowLaws.{first_row, other_rows}
use Rattle.ramp.specs.Speeds.{speed_at}

module _ (r : Row) (rows : List Row) (g : ℕ) where
  first_speed : g < 1000 * r.steps → speed_at (r ∷ rows) g ≡ r.speed
  unfolding speed_at
  first_speed h = rw (lt-ltb g (1000 * r.steps) h, speed_at) refl

  later_speed : 1000 * r.steps ≤ g → speed_at (r ∷ rows) g ≡ speed_at rows (g - 1000 * r.steps)
  unfolding speed_at
  later_speed h = rw (le-ltb g (1000 * r.steps) h, speed_at) refl

abbrev at : List Row → ℕ → Row
at rows i = slice_index_or rows i (record { steps = 0; speed = 0 })

-- the steps are a sum
pub steps_sum : (rows : List Row) → steps_of rows ≡ sum_by (λ (r : Row). r.steps) rows
unfolding steps_of
steps_sum = is_sum_by steps_of (λ (r : Row). r.steps) refl (λ _ _. refl)

-- the row that holds a millistep
pub speed_here :
    (rows : List Row) (i g : ℕ) → i < length rows → 1000 * steps_of (take i rows) ≤ g → g < 1000 * steps_of (take i rows) + 1000 * (at rows i).steps
    → speed_at rows g ≡ (at rows i).speed
unfolding steps_of
speed_here [] i g h a b = absurd (omega arith)
speed_here (r ∷ rows) zero g h a b = first_speed r rows g (omega arith)
speed_here (r ∷ rows) (suc i) g h a b =
    later_speed r rows g (omega arith) ∙ speed_here rows i (g - 1000 * r.steps) (omega arith) (omega arith) (omega arith)

-- no row holds one past the last
pub speed_past : (rows : List Row) (g : ℕ) → 1000 * steps_of rows ≤ g → speed_at rows g ≡ 0
unfolding steps_of speed_at
speed_past [] g h = refl
speed_past (r ∷ rows) g h = later_speed r rows g (omega arith) ∙ speed_past rows (g - 1000 * r.steps) (omega arith)

-- the row of a millistep of the plan is at least as fast as the start, and no row is faster than the top
pub speed_least : (S : ℕ) (rows : List Row) (g : ℕ) → are_rows S rows ≡ true → g < 1000 * steps_of rows → S ≤ speed_at rows g
unfolding steps_of
speed_least S [] g h l = absurd (omega arith)
speed_least S (r ∷ rows) g h l =
    grind (arith, first_speed r rows g, later_speed r rows g, first_row S r rows h, speed_least S rows (g - 1000 * r.steps) (other_rows S r rows h))

pub speed_top : (rows : List Row) (g : ℕ) → speed_at rows g ≤ top_of rows
unfolding speed_at top_of
speed_top [] g = omega arith
speed_top (r ∷ rows) g =
    grind (arith, first_speed r rows g, later_speed r rows g, speed_top rows (g - 1000 * r.steps))
