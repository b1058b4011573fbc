-- The bits of a word that rise, one by one.
use Rattle.std.proofs.Common.{◌≡◌, ℕ, zero, suc, ◌+◌, ◌*◌, ◌%◌, ◌^◌, ◌<◌, min, not, ◌&&◌, ◌==◌, bit_xor, refl, ap, ◌∙◌, sym, arith}
use Rattle.std.proofs.Math.Nat.{zero-mul}
use Rattle.std.proofs.lemmas.Nat.{pow_pos}
use Rattle.std.proofs.lemmas.Nat.Bits.{and_pow, bit_at_and, bit_at_xor, bit_at-lt}
use Rattle.std.proofs.lemmas.Bool.{ne_eqb}
use Rattle.std.specs.Int.{bit_at}
use Rattle.block.specs.Words.{is_set, rising}

-- a bit in its place is a number other than 0 where it is 1
placed : (a p : ℕ) → a < 2 → 0 < p → not (a * p == 0) ≡ (a == 1)
placed zero p l h = rw (zero-mul p) refl
placed (suc zero) p l h = ap not (ne_eqb (1 * p) 0 (λ e. omega arith))
placed (suc (suc a)) p l h = absurd (omega arith)

-- a bit is set where it is 1
pub set_is : (k w : ℕ) → is_set k w ≡ (bit_at w k == 1)
set_is k w = ap (λ n. not (n == 0)) (and_pow w k) ∙ placed (bit_at w k) (2 ^ k) (bit_at-lt w k) (pow_pos k)

both : (a b : ℕ) → a < 2 → b < 2 → (min a ((a + b) % 2) == 1) ≡ ((a == 1) && not (b == 1))
both zero zero l m = refl
both zero (suc zero) l m = refl
both (suc zero) zero l m = refl
both (suc zero) (suc zero) l m = refl
both zero (suc (suc b)) l m = absurd (omega arith)
both (suc zero) (suc (suc b)) l m = absurd (omega arith)
both (suc (suc a)) b l m = absurd (omega arith)

-- a bit rises exactly where it is set now and was not set before
pub rises : (kept w k : ℕ) → is_set k (rising kept w) ≡ (is_set k w && not (is_set k kept))
rises kept w k =
    set_is k (rising kept w)
    ∙ ap (λ n. n == 1) (bit_at_and w (bit_xor w kept) k ∙ ap (min (bit_at w k)) (bit_at_xor w kept k))
    ∙ both (bit_at w k) (bit_at kept k) (bit_at-lt w k) (bit_at-lt kept k)
    ∙ sym (ap (λ x. x && not (is_set k kept)) (set_is k w) ∙ ap (λ y. (bit_at w k == 1) && not y) (set_is k kept))
