-- Pairs: a number in two signed words of sixteen bits, 1000 × first + second. Neither has the opposite sign of the other, and the second's
-- size is below 1000.
use Rattle.std.specs.Prelude.{suc, ◌/◌, ◌%◌, Bool, cond, ◌&&◌, ◌||◌, ℤ, pos, negsuc, ◌+ℤ◌, ◌*ℤ◌, neg_ℤ, Some, None, Option, int_lt, nat_le, unsigned_abs}
use Rattle.block.specs.declared.pair.Pair.{Pair}

-- one is below 0 and the other above
abbrev pub opposite : ℤ → ℤ → Bool
opposite a b = (int_lt a (pos 0) && int_lt (pos 0) b) || (int_lt (pos 0) a && int_lt b (pos 0))

-- the number that two words say together: the first is its thousands
abbrev pub joined : ℤ → ℤ → ℤ
joined first second = pos 1000 *ℤ first +ℤ second

-- the number that two words say, if they are a pair
abbrev pub decoded : Pair → Option ℤ
decoded p = cond (opposite p.first p.second || nat_le 1000 (unsigned_abs p.second)) None (Some (joined p.first p.second))

-- the whole thousands of a number, with its sign
abbrev pub thousands : ℤ → ℤ
thousands (pos n) = pos (n / 1000)
thousands (negsuc n) = neg_ℤ (pos (suc n / 1000))

-- what is over the whole thousands, with its sign
abbrev pub over : ℤ → ℤ
over (pos n) = pos (n % 1000)
over (negsuc n) = neg_ℤ (pos (suc n % 1000))

-- the numbers that a pair can say, -32,768,999 to 32,767,999: the thousands are a signed word of sixteen bits
abbrev pub has_pair : ℤ → Bool
has_pair (pos n) = nat_le n 32767999
has_pair (negsuc n) = nat_le (suc n) 32768999

-- the pair that says a number, if one can
abbrev pub encoded : ℤ → Option Pair
encoded n = cond (has_pair n) (Some (record { first = thousands n; second = over n })) None
