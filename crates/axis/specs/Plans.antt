-- The plans of moves.
use Rattle.std.specs.Prelude.{[], ◌∷◌, map, ℤ, ◌+ℤ◌}
use Rattle.drive.specs.Directions.{signed}
use Rattle.drive.specs.Positions.{distance}
use Rattle.drive.specs.declared.direction.Direction.{Direction}
use Rattle.profile.specs.Plans.{PlanMeans}
use Rattle.profile.specs.Rows.{steps_of}
use Rattle.table.specs.Segments.{row_of}
use Rattle.axis.specs.Axes.{AxisMeans}
use Rattle.axis.specs.declared.order.SingleMove.{SingleMove}

-- a single move: one row of the steps between the position and the target
abbrev pub single_plan : AxisMeans → SingleMove → PlanMeans
single_plan m single =
    record {
      start = m.memory.table.start;
      accel = single.rates.accel;
      decel = single.rates.decel;
      rows = record { steps = distance m.drive.place single.target; speed = single.speed } ∷ [];
    }

-- where a blend in a direction ends: all its sizes from the position
abbrev pub blend_end : AxisMeans → Direction → ℤ
blend_end m way = m.drive.place +ℤ signed way (steps_of (map row_of m.memory.table.rows))
