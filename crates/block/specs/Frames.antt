-- A block: ten signed words of sixteen bits, 0 to 9.
use Rattle.std.specs.Prelude.{ℕ, ◌+◌, ◌^◌, Bool, cond, List, length, ℤ, pos, Ok, Err, Result, ◌==◌, slice_index_or}
use Rattle.std.specs.Int.{w16}
use Rattle.std.proofs.Common.{of_z}
use Rattle.block.specs.Words.{meets, is_set}
use Rattle.block.specs.declared.frame.Block.{Block}
use Rattle.block.specs.declared.pair.Pair.{Pair}
use Rattle.block.specs.declared.refusal.Refusal.{Refusal}
use Rattle.block.specs.declared.refusal.Refusal.TheVariants as refusal
use Rattle.drive.specs.declared.direction.Direction.{Direction}
use Rattle.drive.specs.declared.direction.Direction.TheVariants.{Cw, Ccw}

-- word k of a list of words
abbrev pub word_at : List ℤ → ℕ → ℤ
word_at ws k = slice_index_or ws k (pos 0)

-- its sixteen bits
abbrev pub bits_at : List ℤ → ℕ → ℕ
bits_at ws k = of_z w16 (word_at ws k)

-- words k and k + 1
abbrev pub pair_at : List ℤ → ℕ → Pair
pair_at ws k = record { first = word_at ws k; second = word_at ws (k + 1) }

-- word 0 and word 1, the pairs in words 2 and 4, acceleration, deceleration and dwell
abbrev pub framed : List ℤ → Block
framed ws = record { bits = bits_at ws 0; options = bits_at ws 1; place = pair_at ws 2; speed = pair_at ws 4; accel = word_at ws 6; decel = word_at ws 7; dwell = word_at ws 8 }

-- the bits of word 0 without a meaning: 5 to 8, 14 and 15
abbrev pub reserved : ℕ
reserved = 2 ^ 5 + 2 ^ 6 + 2 ^ 7 + 2 ^ 8 + 2 ^ 14 + 2 ^ 15

-- the block that some words are: exactly ten, and no bit without a meaning
abbrev pub block_of : List ℤ → Result Block Refusal
block_of ws =
    cond (length ws == 10)
    (cond (meets reserved (bits_at ws 0)) (Err refusal.ReservedBits) (Ok (framed ws)))
    (Err refusal.WordCount)

-- bit 0 of word 1 makes Run a dwell move
abbrev pub is_dwell_of : Block → Bool
is_dwell_of b = is_set 0 b.options

-- bit 1 of word 1 makes a blend go counterclockwise
abbrev pub is_ccw_of : Block → Bool
is_ccw_of b = is_set 1 b.options

-- a blend goes clockwise unless word 1 says otherwise
abbrev pub direction_of : Block → Direction
direction_of b = cond (is_ccw_of b) Ccw Cw

-- bit 10 of word 1 has Reset Errors clear the trip
abbrev pub clears_trip_of : Block → Bool
clears_trip_of b = is_set 10 b.options
