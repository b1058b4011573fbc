-- Where moves lead: a move goes at least one step, and ends at a position.
use Rattle.std.specs.Prelude.{Bool, true, cond, not, ◌&&◌, List, [], ◌∷◌, ℤ, ◌+ℤ◌, Some, None, Option, ◌==◌}
use Rattle.std.specs.List.{list_all}
use Rattle.drive.specs.Positions.{is_position, distance}
use Rattle.drive.specs.declared.direction.Direction.{Direction}
use Rattle.drive.specs.declared.direction.Direction.TheVariants.{Cw, Ccw}
use Rattle.table.specs.Segments.{way_of}
use Rattle.table.specs.declared.limits.Limits.{Limits}
use Rattle.table.specs.declared.segment.Segment.{Segment}

-- whether a move from one place to another does so
abbrev pub goes_to : ℤ → ℤ → Bool
goes_to from to = not (distance from to == 0) && is_position to

-- where a move by d steps ends, if it goes at least one step and ends at a position
abbrev pub leg_end : ℤ → ℤ → Option ℤ
leg_end from d = cond (goes_to from (from +ℤ d)) (Some (from +ℤ d)) None

-- each of some rows goes at least one step and ends at a position, where each begins at the end of the one before
unfoldable pub stays_on : ℤ → List Segment → Bool
stays_on from [] = true
stays_on from (s ∷ ss) = goes_to from (from +ℤ s.distance) && stays_on (from +ℤ s.distance) ss

-- the limit in a direction is off
abbrev pub is_clear : Limits → Direction → Bool
is_clear l Cw = not l.cw
is_clear l Ccw = not l.ccw

-- the limit in the direction of each row is off
abbrev pub are_clear : Limits → List Segment → Bool
are_clear l ss = list_all (λ s. is_clear l (way_of s)) ss

-- the limit in a direction so, and the other as it is
abbrev pub with_limit : Limits → Direction → Bool → Limits
with_limit l Cw on = record { cw = on; ccw = l.ccw }
with_limit l Ccw on = record { cw = l.cw; ccw = on }
