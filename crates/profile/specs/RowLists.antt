-- A list of rows is kept in sixteen places: its rows first, and then rows of no steps and no speed.
use Rattle.std.specs.Prelude.{◌≡◌, ℕ, ◌-◌, ◌≤◌, List, ◌++◌, length, take, drop, replicate}
use Rattle.std.proofs.Common.{arith, take-append-drop, length-take-le}
use Rattle.profile.specs.declared.row.Row.{Row}
use Rattle.profile.specs.declared.list.RowList.TheInside.{Inside}

-- a row of no steps and no speed
abbrev pub no_row : Row
no_row = record { steps = 0; speed = 0 }

-- its rows
abbrev pub kept_of : Inside → List Row
kept_of l = take l.count l.rows

-- how a list of rows is kept
pub record Filled (l : Inside) : Type 0 where
  pub few : l.count ≤ 16
  pub places : length l.rows ≡ 16
  pub others : drop l.count l.rows ≡ replicate (16 - l.count) no_row

-- some rows, kept so
abbrev pub filled : List Row → Inside
filled rows = record { rows = rows ++ replicate (16 - length rows) no_row; count = length rows }

same_fields : (xs ys : List Row) (m n : ℕ) → xs ≡ ys → m ≡ n → ◌≡◌ {A = Inside} (record { rows = xs; count = m }) (record { rows = ys; count = n })
same_fields xs ys m n e f = cc

-- its rows, kept so again, are the same list
pub filled_again : (l : Inside) → Filled l → filled (kept_of l) ≡ l
filled_again l h =
    let n = length-take-le l.count l.rows (omega (arith, h.few, h.places)) in
    same_fields _ l.rows _ l.count (rw (n, ← h.others) (take-append-drop l.count l.rows)) n
