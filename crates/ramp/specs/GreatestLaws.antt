-- The greatest number with a property.
use Rattle.std.specs.Prelude.{◌≡◌, ℕ, zero, suc, ◌≤◌, Bool, true, false}
use Rattle.std.proofs.Math.Path.{refl}
use native.Mathlib.Omega.{arith}
use Rattle.ramp.specs.Advances.{Greatest, greatest_to}

-- there is one at most
pub greatest_one : (P : ℕ → Type 0) (a b : ℕ) → Greatest P a → Greatest P b → a ≡ b
greatest_one P a b p q = omega (arith, p.most b q.holds, q.most a p.holds)

module _ (test : ℕ → Bool) where
  here : (n : ℕ) → test (suc n) ≡ true → greatest_to (suc n) test ≡ suc n
  unfolding greatest_to
  here n e = rw (e, greatest_to) refl

  below : (n : ℕ) → test (suc n) ≡ false → greatest_to (suc n) test ≡ greatest_to n test
  unfolding greatest_to
  below n e = rw (e, greatest_to) refl

  pub greatest_passes : (n : ℕ) → test 0 ≡ true → test (greatest_to n test) ≡ true
  unfolding greatest_to
  greatest_passes zero h = h
  greatest_passes (suc n) h = grind (arith, here n, below n, greatest_passes n h)

  pub greatest_within : (n : ℕ) → greatest_to n test ≤ n
  unfolding greatest_to
  greatest_within zero = omega arith
  greatest_within (suc n) = grind (arith, here n, below n, greatest_within n)

  pub greatest_most : (n x : ℕ) → x ≤ n → test x ≡ true → x ≤ greatest_to n test
  greatest_most zero x h t = omega arith
  greatest_most (suc n) x h t = grind (arith, here n, below n, greatest_most n x)
