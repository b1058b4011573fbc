-- Segments: rows of the table, each with a distance and a speed.
use Rattle.std.specs.Prelude.{ℕ, Bool, true, not, ◌&&◌, ◌||◌, List, [], ◌∷◌, pos, ◌==◌, nat_le, unsigned_abs}
use Rattle.drive.specs.Directions.{toward}
use Rattle.drive.specs.Positions.{is_position}
use Rattle.drive.specs.declared.direction.Direction.{Direction}
use Rattle.profile.specs.declared.row.Row.{Row}
use Rattle.table.specs.declared.segment.Segment.{Segment}

-- a segment for the starting speed S: a distance that is a position and not 0, and a speed that a plan takes
abbrev pub is_segment : ℕ → Segment → Bool
is_segment S s = not (unsigned_abs s.distance == 0) && (is_position s.distance && (nat_le S s.speed && nat_le s.speed 200000))

-- each of some rows is one
unfoldable pub are_segments : ℕ → List Segment → Bool
are_segments S [] = true
are_segments S (s ∷ ss) = is_segment S s && are_segments S ss

-- a ready table has at least two rows
abbrev pub is_enough : Bool → ℕ → Bool
is_enough ready count = not ready || nat_le 2 count

-- its direction, by the sign of its distance
abbrev pub way_of : Segment → Direction
way_of s = toward (pos 0) s.distance

-- the row of a plan that travels it: its size, whatever its sign
abbrev pub row_of : Segment → Row
row_of s = record { steps = unsigned_abs s.distance; speed = s.speed }
