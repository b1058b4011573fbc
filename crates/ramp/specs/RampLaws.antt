-- Constant acceleration is a profile.
use Rattle.std.specs.Prelude.{◌≡◌, ℕ, ◌+◌, ◌*◌, ◌<◌, ◌≤◌, Some, None, Option, refl}
use Rattle.std.proofs.Common.{arith}
use Rattle.profile.specs.Plans.{PlanMeans, Lawful, plan_means, plan_of, plan_steps, plan_top, millisteps_of}
use Rattle.profile.specs.Profiles.{ProfileMeans, Sound, Begun, Ticked, Braked, fastest}
use Rattle.profile.specs.declared.plan.Plan.{Plan}
use Rattle.profile.specs.PlanLaws.{lawful, way_near}
use Rattle.ramp.specs.Advances.{Greatest}
use Rattle.ramp.specs.Ramping.{braking_of, MayAdvance, next_advance, advance_of, ramping}
use Rattle.ramp.specs.AdvanceLaws.{advance_greatest}
use Rattle.ramp.specs.BrakingLaws.{braking_low}
use Rattle.ramp.specs.GreatestLaws.{greatest_one}
use Rattle.ramp.specs.LeftLaws.{left_done, left_some, left_tick, left_short, left_braked, left_brake}
use Rattle.ramp.specs.SpeedLaws.{speed_top}

pub sound : (o : Option Plan) (asked gone last : ℕ) → gone ≤ asked → asked ≤ millisteps_of o → Sound (ramping (plan_of o) asked gone last)
sound None asked gone last h w =
    record {
      reached = h;
      near = omega arith;
      done = λ e. omega arith;
      over = λ e. refl;
      lawful = tt;
      blank = grind arith;
    }
sound (Some p) asked gone last h w =
    record {
      reached = h;
      near = omega (arith, way_near (Some p));
      done = grind (arith, left_some (plan_means p) asked gone last);
      over = λ e. left_done (plan_means p) asked gone last (omega arith);
      lawful = lawful p;
      blank = λ e. cc;
    }

-- the greatest advance that may be is the next one
pub greatest_next : (o : Option PlanMeans) (asked gone last u : ℕ) → Greatest (MayAdvance o asked gone last) u → u ≡ advance_of o asked gone last
greatest_next None asked gone last u g = g.holds
greatest_next (Some p) asked gone last u g = greatest_one _ _ _ g (advance_greatest _ _ _ _ _ _)

-- with nothing left the greatest advance is 0, and a tick by it changes nothing
pub idle_greatest : (o : Option PlanMeans) (asked gone last : ℕ) → gone ≡ asked → Greatest (MayAdvance o asked gone last) 0
idle_greatest None asked gone last e = grind arith
idle_greatest (Some p) asked gone last e = grind (arith, braking_low p.start p.decel 0)

pub idle_ticks : (m : ProfileMeans) → m.left ≡ 0 → Ticked m 0 m
idle_ticks m z = grind arith

pub begins : (p : PlanMeans) → Lawful p → (m : ProfileMeans) → m.lag ≡ 0 → Begun m p (ramping (Some p) (1000 * plan_steps p) 0 0)
begins p l m e = grind (arith, left_short p l (1000 * plan_steps p) (omega arith) 0 0)

module _ (p : PlanMeans) (l : Lawful p) (asked gone last : ℕ) (w : asked ≤ 1000 * plan_steps p) (t : last ≤ plan_top p) where
  -- while something is left, a tick takes the greatest advance that may be
  pub ticks :
      (u : ℕ) → gone < asked → Greatest (MayAdvance (Some p) asked gone last) u
      → Ticked (ramping (Some p) asked gone last) u (ramping (Some p) asked (gone + u) u)
  ticks u h g =
      let e : u ≡ next_advance p asked gone last = greatest_next (Some p) asked gone last u g in
      grind (arith, left_some p asked gone last h, left_tick p l asked w gone last u h e, speed_top p.rows gone)

  -- a brake asks for the braking distance
  pub brakes :
      gone + braking_of (Some p) last ≤ asked
      → Braked (ramping (Some p) asked gone last) (ramping (Some p) (gone + braking_of (Some p) last) gone last)
  brakes h =
      record {
        after = refl;
        less = h;
        kept = omega arith;
        sooner = left_braked p l.slows.0 asked gone last h;
        soon = omega (arith, left_brake p l.slows.0 gone last (plan_top p) t);
        blank = λ e. cc;
      }

-- the same of a ramp's plan, if it has one yet
pub ticks_of :
    (o : Option Plan) (asked gone last u : ℕ) → asked ≤ millisteps_of o → last ≤ fastest (plan_of o) → gone < asked → Greatest (MayAdvance (plan_of o) asked gone last) u
    → Ticked (ramping (plan_of o) asked gone last) u (ramping (plan_of o) asked (gone + u) u)
ticks_of None asked gone last u w t h g = absurd (omega arith)
ticks_of (Some q) asked gone last u w t h g = ticks (plan_means q) (lawful q) asked gone last w t u h g

pub brakes_of :
    (o : Option Plan) (asked gone last : ℕ) → asked ≤ millisteps_of o → last ≤ fastest (plan_of o) → gone + braking_of (plan_of o) last ≤ asked
    → Braked (ramping (plan_of o) asked gone last) (ramping (plan_of o) (gone + braking_of (plan_of o) last) gone last)
brakes_of None asked gone last w t h = grind (arith, braking_low 0 0 0)
brakes_of (Some q) asked gone last w t h = brakes (plan_means q) (lawful q) asked gone last w t h
