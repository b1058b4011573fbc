-- What the words of a reading say to whoever takes them apart: each bit of word 0 is its flag, and the position's two words say the position.
use Rattle.std.proofs.Common.{◌≡◌, ℕ, ◌+◌, ◌*◌, Bool, true, false, cond, not, ◌==◌, List, [], ◌∷◌, get_or, ℤ, Some, refl, ap, ◌∙◌, arith}
use lib.Lanes.{mask_l}
use Rattle.std.proofs.lemmas.Int.{ints}
use Rattle.std.proofs.lemmas.Simd.{bit_mask_l}
use Rattle.drive.specs.Positions.{is_position}
use Rattle.drive.specs.declared.direction.Direction.TheVariants.{Cw, Ccw}
use Rattle.block.proofs.BitLaws.{set_is}
use Rattle.block.specs.Pairs.{joined, thousands, over, decoded}
use Rattle.block.specs.Words.{is_set}
use Rattle.axis.specs.Axes.{AxisMeans}
use Rattle.axis.specs.Questions.{programs, is_held}
use Rattle.axis.specs.Readings.{flag, is_moving, moves, accelerates, decelerates, waits, status_of, inputs_of, status_bits, input_bits, BitsSay}

weighs : (n : ℕ) (on : Bool) → cond on n 0 ≡ n * cond on 1 0
weighs n true = omega arith
weighs n false = omega arith

tells : (on : Bool) → (cond on 1 0 == 1) ≡ on
tells true = refl
tells false = refl

-- a word put together of its bits, the lowest first, has these bits
bit_of_word : (bs : List Bool) (k : ℕ) → is_set k (mask_l bs) ≡ get_or bs k false
bit_of_word bs k = set_is k (mask_l bs) ∙ ap (λ n. n == 1) (bit_mask_l bs k) ∙ tells (get_or bs k false)

-- the flags of bits 14 to 0, of which bit 4 is always off, make such a word
flags_word :
    (b13 b12 b11 b10 b9 b8 b7 b6 b5 b3 b2 b1 b0 : Bool)
    → (flag 14 true + flag 13 b13 + flag 12 b12 + flag 11 b11 + flag 10 b10 + flag 9 b9 + flag 8 b8 + flag 7 b7 + flag 6 b6 + flag 5 b5 + flag 3 b3 + flag 2 b2 + flag 1 b1 + flag 0 b0)
    ≡ mask_l (b0 ∷ b1 ∷ b2 ∷ b3 ∷ false ∷ b5 ∷ b6 ∷ b7 ∷ b8 ∷ b9 ∷ b10 ∷ b11 ∷ b12 ∷ b13 ∷ true ∷ [])
flags_word b13 b12 b11 b10 b9 b8 b7 b6 b5 b3 b2 b1 b0 =
    omega (arith, weighs 8192 b13, weighs 4096 b12, weighs 2048 b11, weighs 1024 b10, weighs 512 b9, weighs 256 b8, weighs 128 b7, weighs 64 b6, weighs 32 b5, weighs 8 b3, weighs 4 b2, weighs 2 b1)

-- each bit of word 0 is its flag; bit 4 and those past bit 14 are 0
pub status_read : (m : AxisMeans) (k : ℕ) → is_set k (status_of m) ≡ get_or (status_bits m) k false
status_read m k =
    ap (is_set k)
    (flags_word m.memory.flags.configuration m.memory.flags.command m.memory.flags.input m.memory.flags.invalid (waits m.memory) (programs m.memory.state) m.memory.flags.complete (decelerates m.memory) (accelerates m.memory) (not (is_moving m.memory.state)) (is_held m.memory.state) (moves Ccw m.memory.state) (moves Cw m.memory.state))
    ∙ bit_of_word (status_bits m) k

pub complete_read : (m : AxisMeans) → is_set 7 (status_of m) ≡ m.memory.flags.complete
complete_read m = status_read m 7

inputs_word :
    (b7 b2 b1 b0 : Bool) → (flag 7 b7 + flag 2 b2 + flag 1 b1 + flag 0 b0) ≡ mask_l (b0 ∷ b1 ∷ b2 ∷ false ∷ false ∷ false ∷ false ∷ b7 ∷ [])
inputs_word b7 b2 b1 b0 = omega (arith, weighs 128 b7, weighs 4 b2, weighs 2 b1)

-- each bit of word 1 is its flag; all others are 0
pub inputs_read : (m : AxisMeans) (k : ℕ) → is_set k (inputs_of m) ≡ get_or (input_bits m) k false
inputs_read m k =
    ap (is_set k) (inputs_word m.drive.tripped m.memory.levels.estop m.memory.levels.limits.ccw m.memory.levels.limits.cw)
    ∙ bit_of_word (input_bits m) k

-- the two words of the position, taken together, are the position
pub position_read : (p : ℤ) → is_position p ≡ true → joined (thousands p) (over p) ≡ p
position_read p h = grind (arith, ints)

-- and they are a pair, which says the position
pub position_decoded : (p : ℤ) → is_position p ≡ true → decoded (record { first = thousands p; second = over p }) ≡ Some p
position_decoded p h = grind (arith, ints)

-- so it is for both words
pub bits_say : (m : AxisMeans) → BitsSay m
bits_say m = record { status = status_read m; inputs = inputs_read m }
