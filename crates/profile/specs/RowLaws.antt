-- What holds of the rows of a plan, and of what is left of them from a place on.
use Rattle.std.specs.Prelude.{◌≡◌, ℕ, zero, suc, ◌+◌, ◌<◌, ◌≤◌, max, Bool, true, ◌&&◌, List, [], ◌∷◌, length, drop, slice_index_or, refl}
use Rattle.std.proofs.Common.{sym, ap, ◌∙◌, add-one, arith, drop-cons}
use Rattle.std.proofs.lemmas.Bool.Decides.{nat_tests}
use Rattle.profile.specs.Rows.{steps_of, top_of, is_row, are_rows}
use Rattle.profile.specs.declared.row.Row.{Row}

abbrev at : List Row → ℕ → Row
at rows i = slice_index_or rows i (record { steps = 0; speed = 0 })

next : (rows : List Row) (i : ℕ) → i < length rows → drop i rows ≡ at rows i ∷ drop (i + 1) rows
next rows i h = rw add-one (drop-cons rows i (record { steps = 0; speed = 0 }) h)

past : (rows : List Row) (i : ℕ) → length rows ≤ i → drop i rows ≡ []
past [] zero h = refl
past [] (suc i) h = refl
past (r ∷ rows) zero h = absurd (omega arith)
past (r ∷ rows) (suc i) h = past rows i (omega arith)

pub steps_next : (rows : List Row) (i : ℕ) → i < length rows → steps_of (drop i rows) ≡ (at rows i).steps + steps_of (drop (i + 1) rows)
unfolding steps_of
steps_next rows i h = ap steps_of (next rows i h)

pub steps_past : (rows : List Row) (i : ℕ) → length rows ≤ i → steps_of (drop i rows) ≡ 0
unfolding steps_of
steps_past rows i h = ap steps_of (past rows i h)

pub top_next : (rows : List Row) (i : ℕ) → i < length rows → top_of (drop i rows) ≡ max (at rows i).speed (top_of (drop (i + 1) rows))
unfolding top_of
top_next rows i h = ap top_of (next rows i h)

pub top_past : (rows : List Row) (i : ℕ) → length rows ≤ i → top_of (drop i rows) ≡ 0
unfolding top_of
top_past rows i h = ap top_of (past rows i h)

-- whether all rows from a place on are rows of a plan is asked row by row
pub rows_next :
    (S : ℕ) (rows : List Row) (i : ℕ) (one all : Bool) → i < length rows → one ≡ is_row S (at rows i) → are_rows S (drop i rows) ≡ all
    → (one && are_rows S (drop (i + 1) rows)) ≡ all
unfolding are_rows
rows_next S rows i one all h e f = ap (λ b. b && are_rows S (drop (i + 1) rows)) e ∙ (sym (ap (are_rows S) (next rows i h)) ∙ f)

pub rows_past : (S : ℕ) (rows : List Row) (i : ℕ) → length rows ≤ i → are_rows S (drop i rows) ≡ true
unfolding are_rows
rows_past S rows i h = ap (are_rows S) (past rows i h)

pub row_bounds : (S : ℕ) (r : Row) → is_row S r ≡ true → (1 ≤ r.steps) × (S ≤ r.speed) × (r.speed ≤ 200000)
row_bounds S r h = (grind (arith, nat_tests), grind (arith, nat_tests), grind (arith, nat_tests))

pub first_row : (S : ℕ) (r : Row) (rows : List Row) → are_rows S (r ∷ rows) ≡ true → (1 ≤ r.steps) × (S ≤ r.speed) × (r.speed ≤ 200000)
unfolding are_rows
first_row S r rows h = (grind (arith, nat_tests), grind (arith, nat_tests), grind (arith, nat_tests))

pub other_rows : (S : ℕ) (r : Row) (rows : List Row) → are_rows S (r ∷ rows) ≡ true → are_rows S rows ≡ true
unfolding are_rows
other_rows S r rows h = grind arith

-- a plan's top is at most 200,000, and at least its starting speed
pub top_most : (S : ℕ) (rows : List Row) → are_rows S rows ≡ true → top_of rows ≤ 200000
unfolding top_of
top_most S [] h = omega arith
top_most S (r ∷ rows) h = omega (arith, first_row S r rows h, top_most S rows (other_rows S r rows h))

pub top_least : (S : ℕ) (rows : List Row) → are_rows S rows ≡ true → 1 ≤ length rows → S ≤ top_of rows
unfolding top_of
top_least S [] h l = absurd (omega arith)
top_least S (r ∷ rows) h l = omega (arith, first_row S r rows h)

-- a plan has at least one step
pub steps_least : (S : ℕ) (rows : List Row) → are_rows S rows ≡ true → 1 ≤ length rows → 1 ≤ steps_of rows
unfolding steps_of
steps_least S [] h l = absurd (omega arith)
steps_least S (r ∷ rows) h l = omega (arith, first_row S r rows h)
