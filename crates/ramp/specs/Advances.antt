-- Constant acceleration, in numbers. S is the starting speed, A the acceleration, D the deceleration, V the speed of the row
-- that holds the next millistep, v the last advance and R the millisteps to go. The advance is the greatest whole u with
-- u ≤ max(V, v - D), u ≤ max(S, v + A) and u + B(u) ≤ R.
use Rattle.std.specs.Prelude.{ℕ, zero, suc, ◌+◌, ◌-◌, ◌≤◌, min, max, Bool, true, false, nat_le}
use Rattle.ramp.specs.Braking.{braking}

-- what an advance u keeps to
pub record May (S A D V v R u : ℕ) : Type 0 where
  pub slow : u ≤ max V (v - D)
  pub eased : u ≤ max S (v + A)
  pub stops : u + braking S D u ≤ R

-- the greatest number with a property
pub record Greatest (P : ℕ → Type 0) (u : ℕ) : Type 0 where
  pub holds : P u
  pub most : (x : ℕ) → P x → x ≤ u

-- the greatest number up to n that passes a test, and 0 where none does
unfoldable pub greatest_to : ℕ → (ℕ → Bool) → ℕ
greatest_to zero test = 0
greatest_to (suc n) test = elim (test (suc n)) [ true ↦ suc n | false ↦ greatest_to n test ]

-- the advance
unfoldable pub advance : (S A D V v R : ℕ) → ℕ
advance S A D V v R = greatest_to (min (max V (v - D)) (max S (v + A))) (λ u. nat_le (u + braking S D u) R)
