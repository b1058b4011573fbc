-- The speed of the row that holds a millistep. The rows follow one another, and a step has 1000 millisteps.
use Rattle.std.specs.Prelude.{ℕ, ◌-◌, ◌*◌, true, false, List, [], ◌∷◌, nat_lt}
use Rattle.profile.specs.declared.row.Row.{Row}

-- the speed of the row that holds the millistep after the first g; 0 past the last row
unfoldable pub speed_at : List Row → ℕ → ℕ
speed_at [] g = 0
speed_at (r ∷ rs) g = elim (nat_lt g (1000 * r.steps)) [ true ↦ r.speed | false ↦ speed_at rs (g - 1000 * r.steps) ]
