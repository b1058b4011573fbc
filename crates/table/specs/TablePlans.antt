-- The plans that the rows of a table make.
use Rattle.std.specs.Prelude.{ℕ, [], ◌∷◌, map, pos, slice_index_or}
use Rattle.profile.specs.Plans.{PlanMeans}
use Rattle.profile.specs.declared.rates.Rates.{Rates}
use Rattle.table.specs.Segments.{row_of}
use Rattle.table.specs.Tables.{TableMeans}
use Rattle.table.specs.declared.segment.Segment.{Segment}

-- no segment
abbrev pub no_segment : Segment
no_segment = record { distance = pos 0; speed = 0 }

-- row i; past the last row there is no segment
abbrev pub row_at : TableMeans → ℕ → Segment
row_at t i = slice_index_or t.rows i no_segment

-- a blend: one plan of all rows, signs ignored
abbrev pub blend_plan : TableMeans → Rates → PlanMeans
blend_plan t rates = record { start = t.start; accel = rates.accel; decel = rates.decel; rows = map row_of t.rows }

-- row i as a plan of its own
abbrev pub row_plan : TableMeans → Rates → ℕ → PlanMeans
row_plan t rates i = record { start = t.start; accel = rates.accel; decel = rates.decel; rows = row_of (row_at t i) ∷ [] }
