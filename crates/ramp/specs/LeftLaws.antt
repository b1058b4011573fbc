-- The ticks left in a plan.
use Rattle.std.specs.Prelude.{◌≡◌, ℕ, zero, suc, ◌+◌, ◌-◌, ◌*◌, ◌<◌, ◌≤◌, min}
use Rattle.std.proofs.Math.Path.{refl, sym, ap}
use Rattle.std.proofs.Common.{suc-mul}
use Rattle.std.proofs.lemmas.Grind.{common_steps}
use Rattle.std.proofs.Math.Nat.{zero-mul}
use native.Mathlib.Omega.{arith}
use Rattle.std.proofs.lemmas.Nat.{le-div}
use Rattle.std.proofs.lemmas.Bool.{lt-ltb, le-ltb}
use Rattle.profile.specs.Plans.{PlanMeans, Lawful, plan_steps}
use Rattle.profile.specs.Profiles.{up_div}
use Rattle.ramp.specs.Braking.{braking}
use Rattle.ramp.specs.Ramping.{next_advance, left_in, ticks_left}
use Rattle.ramp.specs.Speeds.{speed_at}
use Rattle.ramp.specs.AdvanceLaws.{advance_stops, advance_least, advance_falls, advance_braked}
use Rattle.ramp.specs.BrakingLaws.{braking_low, braking_high, braking_above, braking_rises}
use Rattle.ramp.specs.SpeedLaws.{speed_least}

up_to : (k a b : ℕ) → 0 < b → k * b < a + b → k ≤ up_div a b
up_to k a b p h = le-div k (a + (b - 1)) b p (omega arith)

module _ (p : PlanMeans) where
  done_in : (n asked gone v : ℕ) → asked ≤ gone → left_in n p asked gone v ≡ 0
  unfolding left_in
  done_in zero asked gone v h = refl
  done_in (suc n) asked gone v h = rw (le-ltb gone asked h, left_in) refl

  more_in :
      (n asked gone v u : ℕ) → gone < asked → u ≡ next_advance p asked gone v
      → left_in (suc n) p asked gone v ≡ suc (left_in n p asked (gone + u) u)
  unfolding left_in
  more_in n asked gone v u h e = rw (e, lt-ltb gone asked h, left_in) refl

  longer : (n m asked gone v : ℕ) → n ≤ m → left_in n p asked gone v ≤ left_in m p asked gone v
  unfolding left_in
  longer zero m asked gone v h = omega arith
  longer (suc n) zero asked gone v h = omega arith
  longer (suc n) (suc m) asked gone v h =
      let u : ℕ = next_advance p asked gone v in
      grind (arith, done_in (suc n) asked gone v, more_in n asked gone v u, more_in m asked gone v u, longer n m asked (gone + u) u)

  pub left_done : (asked gone v : ℕ) → asked ≤ gone → ticks_left p asked gone v ≡ 0
  unfolding ticks_left
  left_done asked gone v h = done_in (asked - gone) asked gone v h

  pub left_some : (asked gone v : ℕ) → gone < asked → 0 < ticks_left p asked gone v
  unfolding ticks_left
  left_some asked gone v h =
      let e : asked - gone ≡ suc (asked - gone - 1) = omega arith in
      omega (arith, ap (λ n. left_in n p asked gone v) e, more_in (asked - gone - 1) asked gone v _ h refl)

-- a brake
module _ (p : PlanMeans) (d : 0 < p.decel) where
  abbrev B : ℕ → ℕ
  B u = braking p.start p.decel u

  abbrev down : ℕ → ℕ
  down v = v - p.decel

  fall : (gone v : ℕ) → 0 < B v → gone + B v ≡ gone + down v + B (down v)
  fall gone v h = omega (arith, braking_high p.start p.decel d v (braking_above p.start p.decel d v h))

  -- with just the braking distance to go, the speed falls by the deceleration each tick
  fall_in :
      (n asked gone v : ℕ) → asked ≡ gone + B v → 0 < B v → left_in (suc n) p asked gone v ≡ suc (left_in n p asked (gone + down v) (down v))
  fall_in n asked gone v e h =
      more_in p n asked gone v (down v) (omega arith)
      (sym (advance_braked p.start p.accel p.decel (speed_at p.rows gone) v (asked - gone) d (omega arith) h))

  -- no way from a speed at least as great takes fewer ticks
  fewest_in :
      (n x g y asked gone v : ℕ) → x ≡ g + B y → y ≤ v → gone + B v ≤ asked → left_in n p x g y ≤ left_in n p asked gone v
  unfolding left_in
  fewest_in zero x g y asked gone v e h r = omega arith
  fewest_in (suc n) x g y asked gone v e h r =
      let u : ℕ = next_advance p asked gone v in
      let more : B y ≤ B v = braking_rises p.start p.decel d y v h in
      let room : u + B u ≤ asked - gone = advance_stops p.start p.accel p.decel (speed_at p.rows gone) v (asked - gone) in
      let falls = advance_falls p.start p.accel p.decel (speed_at p.rows gone) v (asked - gone) d in
      grind (
        arith,
        falls,
        fall_in n x g y e,
        fall g y,
        done_in p (suc n) x g y,
        more_in p n asked gone v u,
        fewest_in n x (g + down y) (down y) asked (gone + u) u,
      )

  few_in : (n asked gone v : ℕ) → asked ≡ gone + B v → left_in n p asked gone v * p.decel < (v - p.start) + p.decel
  unfolding left_in
  few_in zero asked gone v e = omega (arith, zero-mul p.decel)
  few_in (suc n) asked gone v e =
      grind (
        arith,
        common_steps,
        braking_above p.start p.decel d v,
        braking_low p.start p.decel (down v),
        done_in p (suc n) asked gone v,
        done_in p n asked (gone + down v) (down v),
        fall gone v,
        fall_in n asked gone v e,
        few_in n asked (gone + down v) (down v),
        suc-mul (left_in n p asked (gone + down v) (down v)) p.decel,
      )

  -- it does not raise the ticks left
  pub left_braked : (asked gone v : ℕ) → gone + B v ≤ asked → ticks_left p (gone + B v) gone v ≤ ticks_left p asked gone v
  unfolding ticks_left
  left_braked asked gone v h =
      let n : ℕ = gone + B v - gone in
      omega (
        arith,
        fewest_in n (gone + B v) gone v asked gone v refl (omega arith) h,
        longer p n (asked - gone) asked gone v (omega arith),
      )

  -- and leaves at most those of a fall from the top to the start
  pub left_brake : (gone v top : ℕ) → v ≤ top → ticks_left p (gone + B v) gone v ≤ up_div (top - p.start) p.decel
  unfolding ticks_left
  left_brake gone v top h =
      up_to _ (top - p.start) p.decel d (omega (arith, few_in (gone + B v - gone) (gone + B v) gone v refl))

module _ (p : PlanMeans) (l : Lawful p) (asked : ℕ) (w : asked ≤ 1000 * plan_steps p) where
  least : (gone v : ℕ) → gone < asked → min p.start (asked - gone) ≤ next_advance p asked gone v
  least gone v h =
      advance_least p.start p.accel p.decel (speed_at p.rows gone) v (asked - gone)
      (speed_least p.start p.rows gone l.each (omega arith))

  -- ticks beyond one for each millistep change nothing
  enough : (n m gone v : ℕ) → asked - gone ≤ n → asked - gone ≤ m → left_in n p asked gone v ≡ left_in m p asked gone v
  unfolding left_in
  enough zero m gone v h k = sym (done_in p m asked gone v (omega arith))
  enough (suc n) zero gone v h k = done_in p (suc n) asked gone v (omega arith)
  enough (suc n) (suc m) gone v h k =
      let u : ℕ = next_advance p asked gone v in
      grind (
        arith,
        l.starts,
        least gone v,
        done_in p (suc n) asked gone v,
        done_in p (suc m) asked gone v,
        more_in p n asked gone v u,
        more_in p m asked gone v u,
        enough n m (gone + u) u,
      )

  short_in : (n gone v : ℕ) → left_in n p asked gone v * p.start < (asked - gone) + p.start
  unfolding left_in
  short_in zero gone v = omega (arith, l.starts, zero-mul p.start)
  short_in (suc n) gone v =
      let u : ℕ = next_advance p asked gone v in
      grind (
        arith,
        common_steps,
        l.starts,
        least gone v,
        done_in p (suc n) asked gone v,
        done_in p n asked (gone + u) u,
        more_in p n asked gone v u,
        short_in n (gone + u) u,
        suc-mul (left_in n p asked (gone + u) u) p.start,
      )

  -- a tick takes one from the ticks left
  pub left_tick : (gone v u : ℕ) → gone < asked → u ≡ next_advance p asked gone v → ticks_left p asked gone v ≡ ticks_left p asked (gone + u) u + 1
  unfolding ticks_left
  left_tick gone v u h e =
      let some = least gone v h in
      let s = l.starts in
      omega (
        arith,
        enough (asked - gone) (suc (asked - gone)) gone v (omega arith) (omega arith),
        more_in p (asked - gone) asked gone v u h e,
        enough (asked - gone) (asked - (gone + u)) (gone + u) u (omega arith) (omega arith),
      )

  -- they are at most those at the starting speed
  pub left_short : (gone v : ℕ) → ticks_left p asked gone v ≤ up_div (asked - gone) p.start
  unfolding ticks_left
  left_short gone v = up_to _ (asked - gone) p.start l.starts (short_in (asked - gone) gone v)
