-- Positions: whole numbers of steps, from -8,388,607 to 8,388,607.
use Rattle.std.specs.Prelude.{ℕ, Bool, ℤ, ◌-ℤ◌, nat_le, unsigned_abs}

abbrev pub is_position : ℤ → Bool
is_position p = nat_le (unsigned_abs p) 8388607

-- the steps between two places
abbrev pub distance : ℤ → ℤ → ℕ
distance from to = unsigned_abs (to -ℤ from)
