-- A number is written by one or more digits of its base, and nothing else. A digit is '0' to '9' or, past nine, a letter from 'a' on in
-- either case (`digit_value`). A signed number is decimal, and may have a single '-' (45) in front.
use Rattle.std.specs.Prelude.{ℕ, ◌+◌, ◌*◌, ◌^◌, cond, List, [], ◌∷◌, take, drop, ℤ, pos, neg_ℤ, Some, None, codes, Option, ◌==◌, nat_lt}
use Rattle.std.specs.Int.{w16}
use Rattle.std.proofs.Common.{to_z}
use Rattle.std.specs.Option.{option_map}
use Rattle.std.specs.Char.{digit_value}
use Rattle.std.specs.Str.{bytes_eq}

-- the number that digits of a base write after those of n
abbrev pub digits_after : ℕ → ℕ → List ℕ → Option ℕ
digits_after base n [] = Some n
digits_after base n (b ∷ bs) = cond (nat_lt (digit_value b) base) (digits_after base (n * base + digit_value b) bs) None

-- the number that digits of a base write; none write no number
abbrev pub digits_of : ℕ → List ℕ → Option ℕ
digits_of base [] = None
digits_of base (b ∷ bs) = digits_after base 0 (b ∷ bs)

-- a number that is below the limit
abbrev pub below : ℕ → Option ℕ → Option ℕ
below limit None = None
below limit (Some n) = cond (nat_lt n limit) (Some n) None

-- an unsigned number of 32 bits
abbrev pub natural_of : List ℕ → Option ℕ
natural_of bs = below (2 ^ 32) (digits_of 10 bs)

-- a number from -half to 0, by what follows its '-'
abbrev pub negative_of : ℕ → List ℕ → Option ℤ
negative_of half bs = option_map (λ n. neg_ℤ (pos n)) (below (half + 1) (digits_of 10 bs))

-- a number from 0 to half - 1, without a sign
abbrev pub positive_of : ℕ → List ℕ → Option ℤ
positive_of half bs = option_map pos (below half (digits_of 10 bs))

-- a signed number from -half to half - 1
abbrev pub signed_of : ℕ → List ℕ → Option ℤ
signed_of half [] = None
signed_of half (b ∷ bs) = cond (b == 45) (negative_of half bs) (positive_of half (b ∷ bs))

-- a signed number of 32 bits
abbrev pub integer_of : List ℕ → Option ℤ
integer_of bs = signed_of (2 ^ 31) bs

-- the signed number of 16 bits whose bits are these hexadecimal digits
abbrev pub bits_of : List ℕ → Option ℤ
bits_of bs = option_map (to_z w16) (below (2 ^ 16) (digits_of 16 bs))

-- a signed number of 16 bits, by its value or, after `0x`, by its bits
abbrev pub word_of : List ℕ → Option ℤ
word_of bs = cond (bytes_eq (take 2 bs) (codes "0x")) (bits_of (drop 2 bs)) (signed_of (2 ^ 15) bs)
