-- How many values a smoothing keeps.
use Rattle.std.specs.Prelude.{ℕ, min, max}

-- W, where n is asked for: 1 to 64; 0 counts as 1, and more as 64
abbrev pub length_for : ℕ → ℕ
length_for n = min (max n 1) 64
