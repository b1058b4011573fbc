use Rattle.std.proofs.Common.{◌≡◌, ◌≤◌, map, length, take}
use Rattle.table.specs.Segments.{row_of}
use Rattle.table.proofs.table.Table.blend_rows.Given as goal

abbrev pub invariant-loop-segment : goal.invariant-loop-segment
invariant-loop-segment l = (length l.segment-items ≤ 16) × (l.rows ≡ map row_of (take l.segment-index l.segment-items))
