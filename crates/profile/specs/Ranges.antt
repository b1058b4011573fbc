-- Ranges of numbers, both ends within.
use Rattle.std.specs.Prelude.{ℕ, Bool, ◌||◌, nat_lt}

abbrev pub outside : ℕ → ℕ → ℕ → Bool
outside low high n = nat_lt n low || nat_lt high n
