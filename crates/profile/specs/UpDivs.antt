-- A quotient rounded up.
use Rattle.std.specs.Prelude.{◌≡◌, ℕ, ◌+◌, ◌-◌, ◌/◌, ◌<◌, ◌≤◌, min}
use Rattle.std.proofs.Common.{⊎_elim, arith}
use Rattle.std.proofs.Math.Nat.{div-eq_of_lt, div-eq-sub-div}
use Rattle.std.proofs.lemmas.Bool.{cases_lt}
use Rattle.profile.specs.Profiles.{up_div}

pub up_div_zero : (b : ℕ) → up_div 0 b ≡ 0
up_div_zero b =
    ⊎_elim
    (λ (h : 0 < b). let l : 0 + (b - 1) < b = omega arith in div-eq_of_lt l)
    (λ (h : b ≤ 0). let e : b ≡ 0 = omega arith in rw e)
    (cases_lt 0 b)

-- the first b of a, or all of it where that is less, take one off
pub up_div_less : (a b : ℕ) → 0 < a → 0 < b → up_div a b ≡ up_div (a - min b a) b + 1
up_div_less a b p q =
    let l : b ≤ a + (b - 1) = omega arith in
    let e : (a + (b - 1)) / b ≡ (a + (b - 1) - b) / b + 1 = div-eq-sub-div q l in
    ⊎_elim
    (λ (h : a < b).
    let z : a - min b a ≡ 0 = omega arith in
    let y : a + (b - 1) - b < b = omega arith in
    rw (e, z, up_div_zero b, div-eq_of_lt y))
    (λ (h : b ≤ a). let z : a - min b a + (b - 1) ≡ a + (b - 1) - b = omega arith in rw (e, z))
    (cases_lt a b)

pub up_div_pos : (a b : ℕ) → 0 < a → 0 < b → 0 < up_div a b
up_div_pos a b p q = omega (arith, up_div_less a b p q)
