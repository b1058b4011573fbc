use Rattle.std.proofs.Common.{◌≡◌, ◌≤◌, take}
use Rattle.std.specs.Prelude.{map}
use Rattle.bench.specs.Flat.{pair_row}
use Rattle.bench.proofs.flat.rows_of.Given as goal

abbrev pub invariant-loop-steps : goal.invariant-loop-steps
invariant-loop-steps l = record { few : l.steps-index ≤ 16; listed : l.rows ≡ map pair_row (take l.steps-index l.pairs) }
