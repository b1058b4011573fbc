use Rattle.std.proofs.Common.{◌≡◌, ◌≤◌, take}
use Rattle.profile.proofs.list.RowList.of.Given as goal

abbrev pub invariant-loop-row : goal.invariant-loop-row
invariant-loop-row l = record { few : l.row-index ≤ 16; copied : l.list ≡ take l.row-index l.rows }
