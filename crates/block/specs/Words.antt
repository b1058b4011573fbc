-- The bits of a word of sixteen bits, from 0, the lowest, to 15.
use Rattle.std.specs.Prelude.{ℕ, ◌^◌, Bool, not, ◌&&◌, ◌==◌, bit_and, bit_xor}

-- whether one of the bits of a mask is set
abbrev pub meets : ℕ → ℕ → Bool
meets mask w = not (bit_and w mask == 0)

-- whether bit k is set, which is whether (w ÷ 2 ^ k) mod 2 is 1
abbrev pub is_set : ℕ → ℕ → Bool
is_set k w = meets (2 ^ k) w

-- the bits that rise: set now, and other than in the word kept before
abbrev pub rising : ℕ → ℕ → ℕ
rising kept w = bit_and w (bit_xor w kept)

-- the bit of a mask falls: set in the word kept before, and clear now
abbrev pub falls : ℕ → ℕ → ℕ → Bool
falls mask kept w = meets mask kept && bit_and w mask == 0
