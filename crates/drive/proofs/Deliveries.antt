-- A delivery: more steps than an `i32` holds are too far for any drive, as the most that it holds are.
use Rattle.std.proofs.Common.{◌≡◌, ℕ, ◌<◌, ◌≤◌, min, Bool, true, cond, ℤ, pos, nat_abs, is_ok, Err, Result, sym, ap, ◌∙◌, ⊎_elim, arith}
use Rattle.std.proofs.lemmas.Bool.{cases_lt, lt-ltb}
use Rattle.drive.proofs.Landings.{nat_abs_signed}
use Rattle.drive.specs.Deliveries.{Delivered}
use Rattle.drive.specs.Directions.{signed}
use Rattle.drive.specs.Drives.{DriveMeans, Moved, landing}
use Rattle.drive.specs.declared.direction.Direction.{Direction}
use Rattle.drive.specs.declared.fault.DriveFault.{DriveFault}
use Rattle.drive.specs.declared.fault.DriveFault.TheVariants.{Tripped, TooFar}

-- only no steps have no sign
pub signed_none : (d : Direction) (s : ℕ) → signed d s ≡ pos 0 → s ≡ 0
signed_none d s e = sym (nat_abs_signed d s) ∙ ap nat_abs e

far : (g : ℕ) (m : DriveMeans) (d : Direction) (s : ℕ) → g < s → landing g m (signed d s) ≡ cond m.tripped (Err Tripped) (Err TooFar)
far g m d s h = rw (nat_abs_signed d s, lt-ltb g s h)

-- a refused call answers the same whatever it was to answer
refused_alike :
    (b : Bool) (m m' : DriveMeans) (x y : ℤ) (r : Result ℤ DriveFault) → Moved m (cond b (Err Tripped) (Err TooFar)) x r m' → Moved m (cond b (Err Tripped) (Err TooFar)) y r m'
refused_alike b m m' x y r v = grind (arith, v)

-- and is not accepted
refused_far : (b : Bool) (m m' : DriveMeans) (x : ℤ) (r : Result ℤ DriveFault) → Moved m (cond b (Err Tripped) (Err TooFar)) x r m' → is_ok r ≡ true → ⊥
refused_far b m m' x r v e = grind (arith, v)

-- what is true of as many steps as an `i32` holds is true of all
pub delivered :
    {D : Type 0} (means : D → DriveMeans) (Advanced : D → ℤ → D → Type 0) (g : ℕ) (d : Direction) (s : ℕ) (before : D) (r : Result ℤ DriveFault) (after : D) → g ≤ 200
    → Delivered means Advanced g (signed d (min s 2147483647)) before r after → Delivered means Advanced g (signed d s) before r after
delivered means Advanced g d s before r after reach v =
    ⊎_elim
    (λ (h : 2147483647 < s).
    let w = rw (far g (means before) d (min s 2147483647) (omega arith)) at v.some (λ e. omega (arith, signed_none d (min s 2147483647) e)) in
    record {
      none = λ e. absurd (omega (arith, signed_none d s e));
      some = λ _. rw (far g (means before) d s (omega arith)) (refused_alike _ _ _ _ _ _ w);
      once = λ _ e. absurd (refused_far _ _ _ _ _ w e);
      refused = v.refused;
    })
    (λ (h : s ≤ 2147483647).
    let e : min s 2147483647 ≡ s = omega arith in
    rw e at v)
    (cases_lt 2147483647 s)
