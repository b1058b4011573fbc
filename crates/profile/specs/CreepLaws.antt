-- Creep is a profile.
use Rattle.std.specs.Prelude.{◌≡◌, ℕ, ◌+◌, ◌-◌, ◌<◌, ◌≤◌, min, Some, None, Option, refl}
use Rattle.std.proofs.Common.{⊎_elim, arith}
use Rattle.std.proofs.lemmas.Bool.{cases_lt}
use Rattle.profile.specs.Creeping.{creeping}
use Rattle.profile.specs.Plans.{plan_of, millisteps_of}
use Rattle.profile.specs.Profiles.{ProfileMeans, Sound, Ticked, start_of, up_div}
use Rattle.profile.specs.declared.plan.Plan.{Plan}
use Rattle.profile.specs.PlanLaws.{lawful_of, way_near, starts_some, start_top}
use Rattle.profile.specs.UpDivs.{up_div_zero, up_div_less, up_div_pos}

-- nothing was asked for before the first plan
way_none : (o : Option Plan) → plan_of o ≡ None → millisteps_of o ≡ 0
way_none None e = refl
way_none (Some p) e = let z : ◌≡◌ {A = ℕ} 0 1 = cc in absurd (omega arith)

module _ (o : Option Plan) (asked gone : ℕ) (reached : gone ≤ asked) (within : asked ≤ millisteps_of o) where
  abbrev start : ℕ
  start = start_of (plan_of o)

  abbrev here : ProfileMeans
  here = creeping (plan_of o) asked gone

  starts : gone < asked → 0 < start
  starts h = starts_some o (omega arith)

  left_done : up_div (asked - gone) start ≡ 0 → gone ≡ asked
  left_done e =
      ⊎_elim
      (λ (h : gone < asked). let p : 0 < asked - gone = omega arith in omega (arith, up_div_pos (asked - gone) start p (starts h)))
      (λ (h : asked ≤ gone). omega arith)
      (cases_lt gone asked)

  left_over : gone ≡ asked → up_div (asked - gone) start ≡ 0
  left_over e = let z : asked - gone ≡ 0 = omega arith in rw z (up_div_zero start)

  left_less : (r : ℕ) → r ≡ min start (asked - gone) → up_div (asked - (gone + r)) start ≡ up_div (asked - gone) start - 1
  left_less r e =
      ⊎_elim
      (λ (h : gone < asked).
      let p : 0 < asked - gone = omega arith in
      let z : asked - (gone + r) ≡ asked - gone - min start (asked - gone) = omega arith in
      rw z (omega (arith, up_div_less (asked - gone) start p (starts h))))
      (λ (h : asked ≤ gone).
      let y : asked - gone ≡ 0 = omega arith in
      let z : asked - (gone + r) ≡ 0 = omega arith in
      rw (z, y, up_div_zero start))
      (cases_lt gone asked)

  pub sound : Sound here
  sound =
      record {
        reached = reached;
        near = omega (arith, way_near o);
        done = left_done;
        over = left_over;
        lawful = lawful_of o;
        blank = λ e. let z = way_none o e in let g : gone ≡ asked = omega arith in (omega arith, omega arith, left_over g);
      }

  pub ticks : (r : ℕ) → r ≡ min start (asked - gone) → Ticked here r (creeping (plan_of o) asked (gone + r))
  ticks r e =
      record {
        idle = λ z. omega (arith, left_done z);
        within = omega (arith, start_top (plan_of o) (lawful_of o));
        after = rw (left_less r e);
      }
