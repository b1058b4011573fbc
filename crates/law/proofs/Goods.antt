-- A moment after which the account is still that of the axis, and which keeps the law.
use Rattle.std.proofs.Common.{◌≡◌, ℕ, ◌<◌, ◌≤◌, List, ◌∷◌, ℤ, Some, None, Option, refl, sym, ◌∙◌, subst, arith, nat_abs}
use Rattle.std.proofs.lemmas.Bool.{eq-eqb}
use Rattle.unrefused.specs.Fits.{TableFits, InPause, Underway, Fit}
use Rattle.unrefused.proofs.RowFits.{row_lawful}
use Rattle.axis.specs.declared.order.DwellRow.{DwellRow}
use Rattle.drive.specs.Drives.{DriveMeans}
use Rattle.profile.specs.Plans.{Lawful}
use Rattle.profile.specs.Profiles.{ProfileMeans, up_div, fastest}
use Rattle.table.specs.Tables.{TableMeans}
use Rattle.axis.specs.Axes.{AxisMeans}
use Rattle.axis.specs.declared.state.State.{State}
use Rattle.axis.specs.declared.state.State.TheVariants.{Idle, Programming, Running, Pausing, Holding, Held}
use Rattle.law.proofs.Facts.{plain, Trace, told, trace_of, Timed, Rests, AtRest, IsPausing, Moving, Holds}
use Rattle.law.proofs.Legs.{plan_takes, legs_next}
use Rattle.block.specs.Frames.{pair_at}
use Rattle.block.specs.Pairs.{decoded}
use Rattle.law.specs.Accounts.{Account, Timing, Rest, account_after, effect_of}
use Rattle.law.specs.Calls.{Call, Answer, steps_in}
use Rattle.law.specs.Journeys.{Journey, none, on, pausing, held}
use Rattle.law.specs.Law.{Travels, CallLaw, Clears, InTime, Arrives, Stands, Settles, Law}
use Rattle.law.specs.Moments.{View}

-- after a moment that leaves m', where a was told before it
pub record Good (g : ℕ) (a : Account) (c : Call) (r : Answer) (ws : List ℤ) (m' : AxisMeans) : Type 0 where
  pub counted : (account_after a c r (plain m')).counted ≡ m'.drive.place
  pub kept : (account_after a c r (plain m')).kept ≡ m'.memory.kept
  pub levels : (account_after a c r (plain m')).levels ≡ m'.memory.levels
  pub start : (account_after a c r (plain m')).start ≡ m'.memory.table.start
  pub holds : Holds m' (trace_of (account_after a c r (plain m')))
  pub slow : nat_abs (steps_in r) ≤ up_div (fastest m'.profile.plan) 1000
  pub call : CallLaw g a c r ws (plain m')
  pub clears : Clears (effect_of a c r) (plain m')
  pub arrives : Arrives a (account_after a c r (plain m')).journey (plain m')
  pub stands : Stands a (effect_of a c r)

-- the account after it
pub same_account :
    {g : ℕ} {a : Account} {c : Call} {r : Answer} {ws : List ℤ} {m' : AxisMeans} → Good g a c r ws m'
    → account_after a c r (plain m') ≡ told m' (trace_of (account_after a c r (plain m')))
same_account {a = a} {c = c} {r = r} {m' = m'} h = rw (h.counted, h.kept, h.levels, h.start) refl

-- what is told of what moves keeps the law
timed_less : (u : Option Timing) (n : ℕ) → 0 < n → Timed u n → InTime u
timed_less None n l h = tt
timed_less (Some t) n l h = omega (arith, l, h)

over_in_time : (u : Option Timing) → u ≡ None → InTime u
over_in_time None e = tt
over_in_time (Some t) e = let z : ◌≡◌ {A = Option Timing} (Some t) None = e in cc

rests_less : (s : Option Rest) (n : ℕ) → Rests s n → Settles s
rests_less None n h = tt
rests_less (Some r) n h = omega (arith, h)

free_slow : (s : Option Rest) → s ≡ None → Settles s
free_slow None e = tt
free_slow (Some r) e = let z : ◌≡◌ {A = Option Rest} (Some r) None = e in cc

-- the next leg after a pause has a plan
same_head : {X : Type 0} (x y : X) (xs ys : List X) → x ∷ xs ≡ y ∷ ys → x ≡ y
same_head x y xs ys e = cc

pub lawful_next :
    (g : ℕ) (d : DriveMeans) (t : Trace) (tb : TableMeans) (place : ℤ) (p : ProfileMeans) (next : DwellRow) (ticks : ℕ) → TableFits g tb
    → InPause d tb next → (h : IsPausing t tb place p next ticks) → Lawful h.leg.plan
lawful_next g d t tb place p next ticks f u h =
    let e = same_head _ _ _ _ (h.legs_are ∙ legs_next tb next.run next.index u.within) in
    subst (λ l. Lawful l.plan) (sym e) (row_lawful g d tb next f u)

module _ (v : View) where
  rested : (j : Journey) → AtRest j v.position v.profile → Travels j v
  rested none h = tt
  rested (on x l ls w) h = absurd h
  rested (pausing u x l ls w) h = absurd h
  rested (held x l) h = (h.0, h.1)

  moving_travels : (s : State) (t : Trace) (tb : TableMeans) → Moving s t tb v.position v.profile → Travels t.journey v
  moving_travels Idle t tb h = rested t.journey h.journey
  moving_travels Programming t tb h = rested t.journey h.journey
  moving_travels (Running travel) t tb h = rw h.journey (h.leg_is.plan_is, h.leg_is.keeps_up)
  moving_travels (Pausing next ticks) t tb h = rw h.journey (eq-eqb _ _ h.over, refl)
  moving_travels (Holding travel) t tb h = rw h.journey (h.leg_is.plan_is, h.leg_is.keeps_up)
  moving_travels (Held target) t tb h = rested t.journey h.0.journey

  moving_in_time : (g : ℕ) (s : State) (t : Trace) (tb : TableMeans) (d : DriveMeans) → TableFits g tb → Underway g s d v.profile tb → Moving s t tb v.position v.profile → InTime t.underway
  moving_in_time g Idle t tb d f u h = over_in_time t.underway h.over
  moving_in_time g Programming t tb d f u h = over_in_time t.underway h.over
  moving_in_time g (Running travel) t tb d f u h = timed_less t.underway _ (omega (arith, h.busy)) h.timed
  moving_in_time g (Pausing next ticks) t tb d f u h = timed_less t.underway _ (omega (arith, plan_takes h.leg.plan v.profile.lag (lawful_next g d t tb v.position v.profile next ticks f u h))) h.timed
  moving_in_time g (Holding travel) t tb d f u h = over_in_time t.underway h.over
  moving_in_time g (Held target) t tb d f u h = over_in_time t.underway h.0.over

  moving_slow : (s : State) (t : Trace) (tb : TableMeans) → Moving s t tb v.position v.profile → Settles t.resting
  moving_slow Idle t tb h = rests_less t.resting 0 h.slows
  moving_slow Programming t tb h = rests_less t.resting 0 h.slows
  moving_slow (Running travel) t tb h = free_slow t.resting h.free
  moving_slow (Pausing next ticks) t tb h = free_slow t.resting h.free
  moving_slow (Holding travel) t tb h = rests_less t.resting _ h.slows
  moving_slow (Held target) t tb h = rests_less t.resting 0 h.0.slows

pub law_of :
    {g : ℕ} {a : Account} {c : Call} {r : Answer} {ws : List ℤ} {m' : AxisMeans} → Fit g m' → decoded (pair_at ws 2) ≡ Some m'.drive.place → Good g a c r ws m'
    → Law g a c r ws (plain m')
law_of {g} {a} {c} {r} {ws} {m'} f pair h =
    let t' = trace_of (account_after a c r (plain m')) in
    let moving = h.holds.moving in
    record {
      counts = (sym h.counted, sym h.counted);
      slow = h.slow;
      call = h.call;
      travels = moving_travels (plain m') m'.memory.state t' m'.memory.table moving;
      clears = h.clears;
      in_time = moving_in_time (plain m') g m'.memory.state t' m'.memory.table m'.drive f.table f.underway moving;
      arrives = h.arrives;
      stands = h.stands;
      pair = pair;
      rests = moving_slow (plain m') m'.memory.state t' m'.memory.table moving;
    }
