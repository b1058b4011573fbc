-- The braking distance in one formula: n ticks, of which the i-th goes u - i * D.
use Rattle.std.proofs.Common.{◌≡◌, ℕ, zero, suc, ◌+◌, ◌-◌, ◌*◌, ◌/◌, ◌%◌, ◌<◌, ◌≤◌, min, max, ap, suc-mul, mul_comm, mul-suc, mul-add, arith}
use Rattle.std.specs.Int.{div_ceil}
use Rattle.std.proofs.lemmas.Nat.{mul-le, mod_below, div-add-mod'}
use Rattle.std.proofs.lemmas.Grind.{common_steps, div_ceil_times}
use Rattle.ramp.specs.Braking.{braking}
use Rattle.ramp.specs.BrakingLaws.{braking_low, braking_high}

-- 1 + 2 + .. + n
abbrev tri : ℕ → ℕ
tri n = n * (n + 1) / 2

tri_suc : (n : ℕ) → tri (suc n) ≡ tri n + suc n
tri_suc n = grind (arith, common_steps)

one_more : (D n v b : ℕ) → b + D * tri n ≡ n * v → (v + b) + D * tri (suc n) ≡ suc n * (v + D)
one_more D n v b e =
    omega (arith, suc-mul n (v + D), mul-add n v D, ap (λ x. D * x) (tri_suc n), mul-add D (tri n) (suc n), mul-suc D n, mul_comm D n)

module _ (S D : ℕ) (d : 0 < D) where
  -- nothing is left to brake: the speed is at most the start, or less than the next fall
  idle : (u : ℕ) → u ≤ max S (D - 1) → braking S D u ≡ 0
  idle u h = grind (arith, braking_high S D d u, braking_low S D u, braking_low S D (u - D))

  in_ticks : (n u : ℕ) → n * D ≤ u → n * D < (u - S) + D → u ≤ n * D + max S (D - 1) → braking S D u + D * tri n ≡ n * u
  in_ticks zero u p q r = grind (arith, idle u)
  in_ticks (suc n) u p q r =
      let m : suc n * D ≡ n * D + D = suc-mul n D in
      let whole : (u - D) + D ≡ u = omega arith in
      let more = rw whole at (one_more D n (u - D) (braking S D (u - D)) (in_ticks n (u - D) (omega arith) (omega arith) (omega arith))) in
      omega (arith, braking_high S D d u, more)

  -- the falls to the start, or as many as there is speed for
  pub in_falls : (u n : ℕ) → n ≡ min (div_ceil (u - S) D) (u / D) → braking S D u + D * tri n ≡ n * u
  in_falls u n e =
      let all = div_ceil_times (u - S) D d in
      let whole : u / D * D + u % D ≡ u = div-add-mod' u D in
      let rest = mod_below u D d in
      let few : n * D ≤ div_ceil (u - S) D * D = mul-le _ _ _ _ (omega arith) (omega arith) in
      let fit : n * D ≤ u / D * D = mul-le _ _ _ _ (omega arith) (omega arith) in
      in_ticks n u (omega arith) (omega arith) (grind arith)
