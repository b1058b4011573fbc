-- Rows of a plan: so many steps at a speed each.
use Rattle.std.specs.Prelude.{ℕ, ◌+◌, max, Bool, true, ◌&&◌, List, [], ◌∷◌, nat_le}
use Rattle.profile.specs.declared.row.Row.{Row}

-- all the steps
unfoldable pub steps_of : List Row → ℕ
steps_of [] = 0
steps_of (r ∷ rs) = r.steps + steps_of rs

-- the greatest speed
unfoldable pub top_of : List Row → ℕ
top_of [] = 0
top_of (r ∷ rs) = max r.speed (top_of rs)

-- a row of a plan whose starting speed is S: at least one step, and a speed from S to 200,000
abbrev pub is_row : ℕ → Row → Bool
is_row S r = nat_le 1 r.steps && (nat_le S r.speed && nat_le r.speed 200000)

-- each is one
unfoldable pub are_rows : ℕ → List Row → Bool
are_rows S [] = true
are_rows S (r ∷ rs) = is_row S r && are_rows S rs
