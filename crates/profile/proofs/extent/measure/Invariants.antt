use Rattle.std.proofs.Common.{◌≡◌, ◌+◌, ◌*◌, ◌^◌, ◌≤◌, max, drop}
use Rattle.profile.specs.Rows.{steps_of, top_of}
use Rattle.profile.proofs.extent.measure.Given as goal

abbrev pub invariant-loop-row : goal.invariant-loop-row
invariant-loop-row l =
    (l.steps ≤ 2 ^ 32 * l.row-index)
    × (l.steps + steps_of (drop l.row-index l.rows) ≡ steps_of l.rows)
    × (max l.top (top_of (drop l.row-index l.rows)) ≡ top_of l.rows)
