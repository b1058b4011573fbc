-- The braking distance B(u) of a speed u, in millisteps, with starting speed S and deceleration D:
-- 0 for u ≤ S, and otherwise w + B(w) with w = max(0, u - D).
use Rattle.std.specs.Prelude.{◌≡◌, ℕ, zero, suc, ◌+◌, ◌-◌, ◌<◌, ◌≤◌, true, false, nat_le}

-- the same, followed for at most n ticks
unfoldable pub braking_in : (n S D u : ℕ) → ℕ
braking_in zero S D u = 0
braking_in (suc n) S D u = elim (nat_le u S) [ true ↦ 0 | false ↦ (u - D) + braking_in n S D (u - D) ]

-- u ticks are enough where each takes at least 1 from the speed
unfoldable pub braking : (S D u : ℕ) → ℕ
braking S D u = braking_in u S D u

-- the rule's two sentences
pub record BrakingRule (S D u : ℕ) : Type 0 where
  pub low : u ≤ S → braking S D u ≡ 0
  pub high : S < u → braking S D u ≡ (u - D) + braking S D (u - D)
