-- The braking distance: the rule's two sentences, that it rises with the speed, and how far it reaches.
use Rattle.std.specs.Prelude.{◌≡◌, ℕ, zero, suc, ◌+◌, ◌-◌, ◌*◌, ◌<◌, ◌≤◌}
use Rattle.std.proofs.Math.Path.{refl, sym}
use Rattle.std.proofs.Math.Nat.{zero-mul, suc-mul, mul-le-mul_left}
use native.Mathlib.Omega.{arith}
use Rattle.std.proofs.lemmas.Nat.{mul-le}
use Rattle.std.proofs.lemmas.Bool.{le-leb, lt-leb}
use Rattle.ramp.specs.Braking.{braking_in, braking, BrakingRule}

module _ (S D : ℕ) where
  low_in : (n u : ℕ) → u ≤ S → braking_in n S D u ≡ 0
  unfolding braking_in
  low_in zero u h = refl
  low_in (suc n) u h = rw (braking_in, le-leb u S h) refl

  high_in : (n u : ℕ) → S < u → braking_in (suc n) S D u ≡ (u - D) + braking_in n S D (u - D)
  unfolding braking_in
  high_in n u h = rw (lt-leb u S h, braking_in) refl

  rises_in : (n u x : ℕ) → u ≤ x → braking_in n S D u ≤ braking_in n S D x
  unfolding braking_in
  rises_in zero u x h = omega arith
  rises_in (suc n) u x h = grind (arith, high_in, low_in, rises_in n (u - D) (x - D))

  small_in : (n u : ℕ) → braking_in n S D u ≤ n * u
  unfolding braking_in
  small_in zero u = omega (arith, zero-mul u)
  small_in (suc n) u =
      let le : n * (u - D) ≤ n * u = mul-le-mul_left n (omega arith) in
      grind (arith, high_in n u, low_in (suc n) u, suc-mul n u, small_in n (u - D))

  pub braking_low : (u : ℕ) → u ≤ S → braking S D u ≡ 0
  unfolding braking
  braking_low u h = low_in u u h

  pub braking_small : (u m : ℕ) → u ≤ m → braking S D u ≤ m * m
  unfolding braking
  braking_small u m h = omega (arith, small_in u u, mul-le u u m m h h)

module _ (S D : ℕ) (d : 0 < D) where
  -- ticks beyond the u-th change nothing
  enough : (n m u : ℕ) → u ≤ n → u ≤ m → braking_in n S D u ≡ braking_in m S D u
  unfolding braking_in
  enough zero m u p q = sym (low_in S D m u (omega arith))
  enough (suc n) zero u p q = low_in S D (suc n) u (omega arith)
  enough (suc n) (suc m) u p q = grind (arith, high_in S D n u, high_in S D m u, low_in S D (suc n) u, low_in S D (suc m) u, enough n m (u - D))

  pub braking_high : (u : ℕ) → S < u → braking S D u ≡ (u - D) + braking S D (u - D)
  unfolding braking
  braking_high u h = omega (arith, enough u (suc u) u, high_in S D u u h, enough u (u - D) (u - D))

  pub braking_rule : (u : ℕ) → BrakingRule S D u
  braking_rule u = record { low = braking_low S D u; high = braking_high u }

  pub braking_rises : (u x : ℕ) → u ≤ x → braking S D u ≤ braking S D x
  unfolding braking
  braking_rises u x h = omega (arith, enough u x u (omega arith) h, rises_in S D x u x h)

  -- a speed with a braking distance is above the start
  pub braking_above : (u : ℕ) → 0 < braking S D u → S < u
  braking_above u p = grind (arith, braking_low S D u)

  -- the way to a stop, the tick at u included, is longer for a greater u
  pub stop_rises : (u x : ℕ) → u < x → u + braking S D u < x + braking S D x
  stop_rises u x h = omega (arith, braking_rises u x (omega arith))
