-- Coils that go round in a fixed number of phases.
use Rattle.std.specs.Prelude.{ℕ, List, [], ◌∷◌, ℤ, pos, ◌+ℤ◌, unsigned_abs}
use Rattle.std.specs.Int.{int_rem_euclid}

-- phase p of m phases, moved by n modulo m
abbrev pub turned : ℕ → ℕ → ℤ → ℕ
turned m p n = unsigned_abs (int_rem_euclid (pos p +ℤ n) (pos m))

-- the coil byte of each of eight phases
abbrev pub coil_bytes : List ℕ
coil_bytes = 1 ∷ 5 ∷ 4 ∷ 6 ∷ 2 ∷ 10 ∷ 8 ∷ 9 ∷ []
