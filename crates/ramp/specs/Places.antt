-- A place among the rows of a plan.
use Rattle.std.specs.Prelude.{◌≡◌, ℕ, ◌*◌, ◌≤◌, List, length, take}
use Rattle.profile.specs.Rows.{steps_of}
use Rattle.profile.specs.declared.row.Row.{Row}
use Rattle.ramp.specs.declared.place.Place.{Place}

-- the rows that have been passed are counted with their millisteps, and all of these have gone
pub record IsPlace (rows : List Row) (gone : ℕ) (p : Place) : Type 0 where
  pub among : p.passed ≤ length rows
  pub counted : p.before ≡ 1000 * steps_of (take p.passed rows)
  pub behind : p.before ≤ gone
