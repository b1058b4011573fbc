-- Phases that are moved.
use Rattle.std.proofs.Common.{ℕ, ◌<◌, ℤ, arith}
use Rattle.std.proofs.lemmas.Int.{ints}
use Rattle.drive.specs.Phases.{turned}

-- moved by any n, a phase is one of eight
pub turned_below : (p : ℕ) (n : ℤ) → turned 8 p n < 8
turned_below p n = grind (arith, ints)
