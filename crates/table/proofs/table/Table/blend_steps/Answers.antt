use Rattle.std.proofs.Common.{◌≡◌, ◌≤◌, map, ap, ◌∙◌, arith}
use Rattle.profile.specs.Rows.{steps_of}
use Rattle.table.specs.Segments.{row_of}
use Rattle.table.proofs.SegmentLaws.{sizes_few}
use Rattle.table.proofs.table.Table.blend_steps.Goals as goal
use Rattle.table.proofs.table.Table.blend_steps.Goals.{After-measure}

-- what the rows come to
module _ (c : After-measure) where
  all : c.measure.result.steps ≡ steps_of (map row_of c.args.self.now.rows.items)
  all = c.measure.ensures.steps ∙ ap steps_of (c.as_slice.ensures.rows ∙ c.blend_rows.ensures)

  few : c.measure.result.steps ≤ 134217712
  few = let t = c.args.self.now in omega (arith, all, sizes_few t.start t.rows.items t.each, t.few)

pub overflow_cast-result : goal.overflow_cast-result
overflow_cast-result c = record { fits = omega (arith, few (goal.at.overflow_cast-result c).After-measure) }

pub returns : goal.returns
returns c = let a = (goal.at.returns c).After-measure in record { steps = all a; few = few a }
