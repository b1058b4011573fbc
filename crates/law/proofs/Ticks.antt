-- Ticks.
use Rattle.std.proofs.Common.{◌≡◌, ℕ, zero, suc, ◌+◌, ◌-◌, ◌*◌, ◌/◌, ◌<◌, ◌≤◌, Bool, true, false, cond, eqb, ltb, List, [], ◌∷◌, length, ℤ, pos, ◌+ℤ◌, nat_abs, Some, None, Option, MatchBool, refl, sym, ap, ◌∙◌, subst, arith}
use Rattle.std.proofs.lemmas.Bool.{cond_both, eqb-true, eqb-false, ltb-true, ltb-false, both_ways, eq-eqb, ne_eqb, le-ltb, lt-ltb, false≢true}
use Rattle.std.proofs.lemmas.Int.{ints}
use Rattle.drive.proofs.Landings.{signed_stays, signed_joins, nat_abs_signed, signed_zero}
use Rattle.drive.specs.Directions.{signed}
use Rattle.drive.specs.Drives.{DriveMeans}
use Rattle.drive.specs.declared.direction.Direction.{Direction}
use Rattle.profile.specs.Plans.{PlanMeans, Lawful, plan_steps}
use Rattle.profile.specs.Profiles.{ProfileMeans, Sound, Ticked, plan_ticks, up_div, fastest}
use Rattle.table.specs.TablePlans.{row_at, row_plan}
use Rattle.table.specs.Tables.{TableMeans}
use Rattle.axis.specs.Axes.{AxisMeans, with_memory}
use Rattle.axis.specs.Memories.{MemoryMeans, with_state}
use Rattle.axis.specs.Stops.{stopped, completed, row_after, plan_ended, arrived}
use Rattle.axis.specs.Carrying.{began, row_travel}
use Rattle.axis.specs.Ticks.{due, takes_all, sent_to, steps_sent, moved, moved_on, OneTick, FirstTick}
use Rattle.axis.specs.declared.order.DwellRow.{DwellRow}
use Rattle.axis.specs.declared.state.Kind.{Kind}
use Rattle.axis.specs.declared.state.Kind.TheVariants.{Single, Blend, Dwell}
use Rattle.axis.specs.declared.state.State.TheVariants.{Running, Pausing}
use Rattle.axis.specs.declared.state.Travel.{Travel}
use Rattle.law.proofs.Facts.{plain, Trace, told, trace_of, leg_of_row, legs_from, legs_end, later, pause_of, Aims, Timed, Rests, AtRest, OnLeg, IsRunning, IsPausing, IsResting, Moving, Programmed}
use Rattle.law.proofs.Goods.{Good}
use Rattle.law.proofs.Legs.{some_steps, legs_next, legs_over, sent_there, takes_it, few}
use Rattle.law.specs.Accounts.{Timing, Rest, account_after, one_more, sending, is_over}
use Rattle.law.specs.Calls.{Tick, Sent}
use Rattle.law.specs.Journeys.{Leg, Journey, none, on, pausing, held, along, end_of_leg, later_ticks, on_leg, ticked, fresh, due_in}
use Rattle.law.specs.Law.{OnPlan, TravelsOn, Arrives, Still, Takes}
use Rattle.law.specs.Moments.{View}

-- what a tick does to a leg, whose profile meant b before it and means p after it
module _ (g : ℕ) (d : DriveMeans) (x : ℤ) (leg : Leg) (way : Direction) (b p : ProfileMeans) (r : ℕ) (on_it : OnLeg x leg way d.place b) (t : Ticked b r p) (s : Sound p) (taken : takes_all g d (due way b.gone p) ≡ true) where
  grows : p.gone ≡ b.gone + r
  grows = ap (λ (y : ProfileMeans). y.gone) t.after

  pub same_asked : p.asked ≡ b.asked
  same_asked = ap (λ (y : ProfileMeans). y.asked) t.after

  pub same_lag : p.lag ≡ b.lag
  same_lag = ap (λ (y : ProfileMeans). y.lag) t.after

  pub one_less : 0 < b.left → suc p.left ≡ b.left
  one_less l = omega (arith, l, ap (λ (y : ProfileMeans). y.left) t.after)

  pub stands : (sent_to g d (due way b.gone p)).place ≡ d.place +ℤ due way b.gone p
  stands = sent_there g d (due way b.gone p) taken

  keeps : (sent_to g d (due way b.gone p)).place ≡ along x leg p.gone
  keeps =
      let l : b.gone / 1000 ≤ p.gone / 1000 = omega (arith, grows) in
      stands ∙ (ap (λ z. z +ℤ due way b.gone p) on_it.keeps_up ∙ (ap (λ y. along x leg b.gone +ℤ signed y (p.gone / 1000 - b.gone / 1000)) on_it.way_is ∙ signed_joins leg.way x (b.gone / 1000) (p.gone / 1000) l))

  pub still_on : OnLeg x leg way (sent_to g d (due way b.gone p)).place p
  still_on = record { way_is = on_it.way_is; plan_is = ap (λ (y : ProfileMeans). y.plan) t.after ∙ on_it.plan_is; keeps_up = keeps }

  pub is_due : fresh leg b.gone p.gone ≡ due way b.gone p
  is_due = ap (λ y. signed y (p.gone / 1000 - b.gone / 1000)) (sym on_it.way_is)

  pub is_slow : nat_abs (due way b.gone p) ≤ up_div (fastest p.plan) 1000
  is_slow =
      let top : fastest p.plan ≡ fastest b.plan = ap (λ (y : ProfileMeans). fastest y.plan) t.after in
      let n : nat_abs (due way b.gone p) ≡ p.gone / 1000 - b.gone / 1000 = nat_abs_signed way _ in
      rw (n, grows, top) (few b.gone r (fastest b.plan) t.within)

  -- at its end it is where it leads
  pub arrives_at : b.asked ≡ 1000 * plan_steps leg.plan → p.left ≡ 0 → (sent_to g d (due way b.gone p)).place ≡ end_of_leg x leg
  arrives_at a z =
      let e : p.gone / 1000 ≡ plan_steps leg.plan = omega (arith, s.done z, same_asked, a) in
      keeps ∙ ap (λ n. x +ℤ signed leg.way n) e

-- nothing is left exactly when all has gone
pub over_is : (p : ProfileMeans) → Sound p → eqb p.gone p.asked ≡ eqb p.left 0
over_is p s = on (eqb p.left 0) refl
  where
    on : (b : Bool) → eqb p.left 0 ≡ b → eqb p.gone p.asked ≡ b
    on true e = eq-eqb _ _ (s.done (eqb-true _ _ e))
    on false e = ne_eqb _ _ (λ h. eqb-false _ _ e (s.over h))

pub timed_next : (c : Bool) (u : Option Timing) (n k : ℕ) → suc n ≤ k → Timed u k → Timed (cond c None (one_more u)) n
timed_next true u n k l h = tt
timed_next false None n k l h = tt
timed_next false (Some t) n k l h = omega (arith, l, h)

pub free_next : (s : Option Rest) (n : ℤ) → s ≡ None → sending s n ≡ None
free_next None n e = refl
free_next (Some r) n e = let z : ◌≡◌ {A = Option Rest} (Some r) None = e in cc

-- a tick on a leg of a move: what is kept of the axis before it goes on is k, and d' is the drive after it
pub record OnTick (g : ℕ) (m : AxisMeans) (t : Trace) (way : Direction) (kind : Kind) (b p : ProfileMeans) (k : MemoryMeans) : Type 0 where
  pub r : ℕ
  pub ticks : Ticked b r p
  pub sound : Sound p
  pub from : ℤ
  pub leg : Leg
  pub leg_is : OnLeg from leg way m.drive.place b
  pub asked : b.asked ≡ 1000 * plan_steps leg.plan
  pub busy : 0 < b.left
  pub aims : Aims kind t.target
  pub ends : legs_end (end_of_leg from leg) (later k.table kind) ≡ t.target
  pub timed : Timed t.underway (b.left + later_ticks b.lag (pause_of kind) (later k.table kind))
  pub free : t.resting ≡ None
  pub travels : (v : View) → OnPlan from leg v → TravelsOn t.journey v
  pub due_is : due_in t.journey m.profile.gone p.gone ≡ fresh leg b.gone p.gone
  pub goes : (over : Bool) → ticked over t.journey ≡ on_leg over from leg (later k.table kind) (pause_of kind)
  pub taken : takes_all g m.drive (due way b.gone p) ≡ true
  pub kept_is : m.memory.kept ≡ k.kept
  pub levels_are : m.memory.levels ≡ k.levels
  pub start_is : m.memory.table.start ≡ k.table.start
  pub rows : k.table.ready ≡ true → t.rows ≡ k.table.rows
  pub complete : k.flags.complete ≡ true → m.memory.flags.complete ≡ true

module _ (g : ℕ) (m : AxisMeans) (t : Trace) (way : Direction) (kind : Kind) (b p : ProfileMeans) (k : MemoryMeans) (ws : List ℤ) (o : OnTick g m t way kind b p k) where
  abbrev n : ℤ
  n = due way b.gone p

  abbrev d' : DriveMeans
  d' = sent_to g m.drive n

  there : OnLeg o.from o.leg way d'.place p
  there = still_on g m.drive o.from o.leg way b p o.r o.leg_is o.ticks o.sound o.taken

  -- with what is kept after it
  abbrev after : MemoryMeans → AxisMeans
  after k' = record { drive = d'; profile = p; memory = k' }

  abbrev P : MemoryMeans → Type 0
  P k' = Good g (told m t) Tick (Sent n) ws (after k')

  good : (k' : MemoryMeans) → k.kept ≡ k'.kept → k.levels ≡ k'.levels → k.table ≡ k'.table → Programmed t (after k')
      → Moving k'.state (trace_of (account_after (told m t) Tick (Sent n) (plain (after k')))) k'.table d'.place p
      → Arrives (told m t) (account_after (told m t) Tick (Sent n) (plain (after k'))).journey (plain (after k')) → P k'
  good k' e₁ e₂ e₃ rows moving arrives =
      record {
        counted = sym (stands g m.drive o.from o.leg way b p o.r o.leg_is o.ticks o.sound o.taken);
        kept = o.kept_is ∙ e₁;
        levels = o.levels_are ∙ e₂;
        start = o.start_is ∙ ap (λ (tb : TableMeans). tb.start) e₃;
        holds = record { rows = rows; moving = moving };
        slow = is_slow g m.drive o.from o.leg way b p o.r o.leg_is o.ticks o.sound o.taken;
        call = record {
          sends = ap Sent (sym (o.due_is ∙ is_due g m.drive o.from o.leg way b p o.r o.leg_is o.ticks o.sound o.taken));
          taken = subst (λ z. Takes g m.drive z d'.place) (sym (o.due_is ∙ is_due g m.drive o.from o.leg way b p o.r o.leg_is o.ticks o.sound o.taken)) (takes_it g m.drive n d'.place o.taken (stands g m.drive o.from o.leg way b p o.r o.leg_is o.ticks o.sound o.taken));
          travels = o.travels (plain (after k')) (there.plan_is, there.keeps_up);
        };
        clears = tt;
        arrives = arrives;
        stands = tt;
      }

  over : is_over (plain (after k)) ≡ eqb p.left 0
  over = over_is p o.sound

  same_later : later_ticks p.lag (pause_of kind) (later k.table kind) ≡ later_ticks b.lag (pause_of kind) (later k.table kind)
  same_later = ap (λ z. later_ticks z (pause_of kind) (later k.table kind)) (same_lag g m.drive o.from o.leg way b p o.r o.leg_is o.ticks o.sound o.taken)

  one : suc p.left ≡ b.left
  one = one_less g m.drive o.from o.leg way b p o.r o.leg_is o.ticks o.sound o.taken o.busy

  at_end : eqb p.left 0 ≡ true → d'.place ≡ end_of_leg o.from o.leg
  at_end e = arrives_at g m.drive o.from o.leg way b p o.r o.leg_is o.ticks o.sound o.taken o.asked (eqb-true _ _ e)

  journey_next : (z : Bool) → eqb p.left 0 ≡ z → ticked (is_over (plain (after k))) t.journey ≡ on_leg z o.from o.leg (later k.table kind) (pause_of kind)
  journey_next z e = o.goes _ ∙ ap (λ y. on_leg y o.from o.leg (later k.table kind) (pause_of kind)) (over ∙ e)

  -- the leg goes on
  goes_on : eqb p.left 0 ≡ false → P (with_state k (Running (record { direction = way; kind = kind })))
  goes_on e =
      good (with_state k (Running (record { direction = way; kind = kind }))) refl refl refl o.rows
      (record {
        from = o.from;
        leg = o.leg;
        journey = journey_next false e;
        leg_is = there;
        asked = same_asked g m.drive o.from o.leg way b p o.r o.leg_is o.ticks o.sound o.taken ∙ o.asked;
        busy = (let z = eqb-false _ _ e in omega arith);
        aims = o.aims;
        ends = o.ends;
        timed = timed_next k.flags.complete t.underway _ _ (omega (arith, one, same_later)) o.timed;
        free = free_next t.resting n o.free;
      })
      (λ x y. absurd (both_ways _ x (o.complete y)))

  -- the last leg is over
  ends_move : eqb p.left 0 ≡ true → later k.table kind ≡ [] → P (completed k)
  ends_move e last =
      let over : ticked (is_over (plain (after (completed k)))) t.journey ≡ none = journey_next true e ∙ ap (λ ls. on_leg true o.from o.leg ls (pause_of kind)) last in
      good (completed k) refl refl refl o.rows
      (record {
        journey = subst (λ j. AtRest j d'.place p) (sym over) tt;
        over = refl;
        slows = subst (λ x. Rests x 0) (sym (free_next t.resting n o.free)) tt;
      })
      (λ x y. (at_end e ∙ subst (λ ls. legs_end (end_of_leg o.from o.leg) ls ≡ t.target) last o.ends, subst (λ j. Still j (plain (after (completed k)))) (sym over) tt))

-- a row is over, and not the last
ends_row :
    (g : ℕ) (m : AxisMeans) (t : Trace) (way : Direction) (row : DwellRow) (b p : ProfileMeans) (k : MemoryMeans) (ws : List ℤ)
    (o : OnTick g m t way (Dwell row) b p k) → eqb p.left 0 ≡ true → row.index + 1 < length k.table.rows
    → P g m t way (Dwell row) b p k ws o (with_state k (Pausing (row_after row) row.run.dwell))
ends_row g m t way row b p k ws o e l =
    let next = legs_next k.table row.run (row.index + 1) l in
    let leg = leg_of_row k.table.start row.run.rates (row_at k.table (row.index + 1)) in
    let legs = legs_from k.table row.run (row.index + 1 + 1) in
    let home = at_end g m t way (Dwell row) b p k ws o e in
    let one = one g m t way (Dwell row) b p k ws o in
    let same = same_later g m t way (Dwell row) b p k ws o in
    let ticks : later_ticks p.lag row.run.dwell (legs_from k.table row.run (row.index + 1)) ≡ row.run.dwell + (plan_ticks leg.plan p.lag + later_ticks p.lag row.run.dwell legs) = ap (later_ticks p.lag row.run.dwell) next in
    good g m t way (Dwell row) b p k ws o (with_state k (Pausing (row_after row) row.run.dwell)) refl refl refl o.rows
    (record {
      waited = 0;
      leg = leg;
      legs = legs;
      journey = journey_next g m t way (Dwell row) b p k ws o true e ∙ (ap (λ ls. on_leg true o.from o.leg ls row.run.dwell) next ∙ ap (λ z. pausing 0 z leg legs row.run.dwell) (sym home));
      counts = omega arith;
      legs_are = sym next;
      over = o.sound.done (eqb-true _ _ e);
      ends = ap (λ z. legs_end z (leg ∷ legs)) home ∙ (ap (legs_end (end_of_leg o.from o.leg)) (sym next) ∙ o.ends);
      timed = timed_next k.flags.complete t.underway _ _ (omega (arith, one, same, ticks)) o.timed;
      free = free_next t.resting _ o.free;
    })
    (λ x y. absurd (both_ways _ x (o.complete y)))

pub leg_ticked :
    (g : ℕ) (m : AxisMeans) (t : Trace) (way : Direction) (kind : Kind) (b p : ProfileMeans) (k : MemoryMeans) (ws : List ℤ)
    → OnTick g m t way kind b p k
    → Good g (told m t) Tick (Sent (due way b.gone p)) ws (record { drive = sent_to g m.drive (due way b.gone p); profile = p; memory = arrived k (eqb p.left 0) (record { direction = way; kind = kind }) })
leg_ticked g m t way kind b p k ws o =
    cond_both (eqb p.left 0) _ _ (P g m t way kind b p k ws o) (ending kind o) (goes_on g m t way kind b p k ws o)
  where
    ending : (kind : Kind) (o : OnTick g m t way kind b p k) → eqb p.left 0 ≡ true → P g m t way kind b p k ws o (plan_ended k kind)
    ending (Single target) o e = ends_move g m t way (Single target) b p k ws o e refl
    ending Blend o e = ends_move g m t way Blend b p k ws o e refl
    ending (Dwell row) o e =
        cond_both (ltb (row.index + 1) (length k.table.rows)) _ _ (P g m t way (Dwell row) b p k ws o)
        (λ h. ends_row g m t way row b p k ws o e (ltb-true _ _ h))
        (λ h. ends_move g m t way (Dwell row) b p k ws o e (legs_over k.table row.run (row.index + 1) (ltb-false _ _ h)))

-- a tick in Running
pub run_tick :
    (g : ℕ) (m : AxisMeans) (t : Trace) (travel : Travel) (p : ProfileMeans) (ws : List ℤ)
    → IsRunning t m.memory.table m.drive.place m.profile travel.direction travel.kind → (m.memory.table.ready ≡ true → t.rows ≡ m.memory.table.rows)
    → OneTick m.profile p → Sound p → takes_all g m.drive (due travel.direction m.profile.gone p) ≡ true
    → Good g (told m t) Tick (Sent (steps_sent g m travel.direction m.profile.gone p)) ws (moved_on g (Running travel) m travel.direction m.profile.gone p)
run_tick g m t travel p ws h rows u s taken =
    let k = (moved g m travel.direction m.profile.gone p).memory in
    let o : OnTick g m t travel.direction travel.kind m.profile p k =
    record {
      r = u.advance;
      ticks = u.ticked;
      sound = s;
      from = h.from;
      leg = h.leg;
      leg_is = h.leg_is;
      asked = h.asked;
      busy = h.busy;
      aims = h.aims;
      ends = h.ends;
      timed = h.timed;
      free = h.free;
      travels = λ v a. subst (λ j. TravelsOn j v) (sym h.journey) a;
      due_is = ap (λ j. due_in j m.profile.gone p.gone) h.journey;
      goes = λ over. ap (ticked over) h.journey;
      taken = taken;
      kept_is = refl;
      levels_are = refl;
      start_is = refl;
      rows = rows;
      complete = λ e. e;
    } in
    subst
    (λ z. Good g (told m t) Tick (Sent (cond z (due travel.direction m.profile.gone p) (pos 0))) ws
    (with_memory (moved g m travel.direction m.profile.gone p) (cond z (arrived k (eqb p.left 0) travel) (stopped k))))
    (sym taken) (leg_ticked g m t travel.direction travel.kind m.profile p k ws o)

-- a plan that began goes on in the tick that follows
begun_busy : (b p : ProfileMeans) (r : ℕ) (plan : PlanMeans) → Lawful plan → b.asked ≡ 1000 * plan_steps plan → b.gone ≡ 0 → Ticked b r p → Sound p → 0 < b.left
begun_busy b p r plan l a z t s = on b.left refl
  where
    on : (n : ℕ) → b.left ≡ n → 0 < b.left
    on zero e =
        let left : p.left ≡ b.left - 1 = ap (λ (y : ProfileMeans). y.left) t.after in
        let gone : p.gone ≡ b.gone + r = ap (λ (y : ProfileMeans). y.gone) t.after in
        let asked : p.asked ≡ b.asked = ap (λ (y : ProfileMeans). y.asked) t.after in
        let none_left : p.left ≡ 0 = omega (arith, left, e) in
        absurd (omega (arith, some_steps plan l, a, z, gone, asked, t.idle e, s.done none_left))
    on (suc n) e = omega (arith, e)

pair_same : {X Y : Type 0} (x x' : X) (y y' : Y) → x ≡ x' → y ≡ y' → ◌≡◌ {A = X × Y} (x, y) (x', y')
pair_same x x' y y' e h = cc

plus_none : (z : ℤ) → z +ℤ pos 0 ≡ z
plus_none z = grind (arith, ints)

-- a tick that begins a row
timed_sooner : (u : Option Timing) (n k : ℕ) → n ≤ k → Timed u k → Timed u n
timed_sooner None n k l h = tt
timed_sooner (Some x) n k l h = omega (arith, l, h)

split : {X : Type 0} (x y : X) (xs ys : List X) → x ∷ xs ≡ y ∷ ys → (x ≡ y) × (xs ≡ ys)
split x y xs ys e = (cc, cc)

pub row_tick :
    (g : ℕ) (m : AxisMeans) (t : Trace) (next : DwellRow) (p : ProfileMeans) (ws : List ℤ)
    → IsPausing t m.memory.table m.drive.place m.profile next 0 → (m.memory.table.ready ≡ true → t.rows ≡ m.memory.table.rows)
    → next.index < length m.memory.table.rows → Lawful (row_plan m.memory.table next.run.rates next.index)
    → FirstTick m.profile (row_plan m.memory.table next.run.rates next.index) p → Sound p
    → takes_all g m.drive (due (row_travel m.memory.table next).direction 0 p) ≡ true
    → Good g (told m t) Tick (Sent (steps_sent g m (row_travel m.memory.table next).direction 0 p)) ws
    (moved_on g (Running (row_travel m.memory.table next)) (began m (row_travel m.memory.table next) p) (row_travel m.memory.table next).direction 0 p)
row_tick g m t next p ws h rows l lawful f s taken =
    let tb = m.memory.table in
    let travel = row_travel tb next in
    let way = travel.direction in
    let leg : Leg = leg_of_row tb.start next.run.rates (row_at tb next.index) in
    let legs = legs_from tb next.run (next.index + 1) in
    let parts = split h.leg leg h.legs legs (h.legs_are ∙ legs_next tb next.run next.index l) in
    let journey : t.journey ≡ pausing h.waited m.drive.place leg legs next.run.dwell =
    h.journey ∙ (ap (λ x. pausing h.waited m.drive.place x h.legs next.run.dwell) parts.0 ∙ ap (λ xs. pausing h.waited m.drive.place leg xs next.run.dwell) parts.1) in
    let b = f.begun in
    let asked : b.asked ≡ 1000 * plan_steps leg.plan = ap (λ (y : ProfileMeans). y.asked) f.begins.after in
    let gone : b.gone ≡ 0 = ap (λ (y : ProfileMeans). y.gone) f.begins.after in
    let lag : b.lag ≡ m.profile.lag = ap (λ (y : ProfileMeans). y.lag) f.begins.after in
    let waits : ltb h.waited next.run.dwell ≡ false = le-ltb _ _ (omega (arith, h.counts)) in
    let busy : 0 < b.left = begun_busy b p f.ticks.advance leg.plan lawful asked gone f.ticks.ticked s in
    let k = (moved g (began m travel p) way b.gone p).memory in
    let time : Timed t.underway (0 + (plan_ticks leg.plan m.profile.lag + later_ticks m.profile.lag next.run.dwell legs)) =
    subst (λ x. Timed t.underway (0 + (plan_ticks (x.0).plan m.profile.lag + later_ticks m.profile.lag next.run.dwell x.1))) (pair_same h.leg leg h.legs legs parts.0 parts.1) h.timed in
    let soon : b.left + later_ticks b.lag next.run.dwell legs ≤ 0 + (plan_ticks leg.plan m.profile.lag + later_ticks m.profile.lag next.run.dwell legs) =
    rw lag (omega (arith, f.begins.soon)) in
    let ends : legs_end (end_of_leg m.drive.place leg) legs ≡ t.target = subst (λ x. legs_end (end_of_leg m.drive.place x.0) x.1 ≡ t.target) (pair_same h.leg leg h.legs legs parts.0 parts.1) h.ends in
    let o : OnTick g m t way (Dwell next) b p k =
    record {
      r = f.ticks.advance;
      ticks = f.ticks.ticked;
      sound = s;
      from = m.drive.place;
      leg = leg;
      leg_is = record { way_is = refl; plan_is = ap (λ (y : ProfileMeans). y.plan) f.begins.after; keeps_up = rw gone (sym (signed_stays way m.drive.place)) };
      asked = asked;
      busy = busy;
      aims = tt;
      ends = ends;
      timed = timed_sooner t.underway _ _ soon time;
      free = h.free;
      travels = λ v a. subst (λ j. TravelsOn j v) (sym journey) (subst (λ z. MatchBool z ((is_over v ≡ true) × (v.position ≡ m.drive.place)) (OnPlan m.drive.place leg v)) (sym waits) a);
      due_is = ap (λ j. due_in j m.profile.gone p.gone) journey ∙ (ap (λ z. cond z (pos 0) (fresh leg 0 p.gone)) waits ∙ ap (λ z. fresh leg z p.gone) (sym gone));
      goes = λ over. ap (ticked over) journey ∙ ap (λ z. cond z (pausing (suc h.waited) m.drive.place leg legs next.run.dwell) (on_leg over m.drive.place leg legs next.run.dwell)) waits;
      taken = subst (λ z. takes_all g m.drive (due way z p) ≡ true) (sym gone) taken;
      kept_is = refl;
      levels_are = refl;
      start_is = refl;
      rows = rows;
      complete = λ e. absurd (false≢true e);
    } in
    let G : ℕ → Type 0 = λ z. Good g (told m t) Tick (Sent (steps_sent g m way z p)) ws (moved_on g (Running travel) (began m travel p) way z p) in
    subst G gone
    (subst
    (λ z. Good g (told m t) Tick (Sent (cond z (due way b.gone p) (pos 0))) ws
    (with_memory (moved g (began m travel p) way b.gone p) (cond z (arrived k (eqb p.left 0) travel) (stopped k))))
    (sym o.taken) (leg_ticked g m t way (Dwell next) b p k ws o))

-- a tick that a pause counts
pub wait_tick :
    (g : ℕ) (m : AxisMeans) (t : Trace) (next : DwellRow) (ticks : ℕ) (ws : List ℤ)
    → IsPausing t m.memory.table m.drive.place m.profile next ticks → (m.memory.table.ready ≡ true → t.rows ≡ m.memory.table.rows)
    → 0 < ticks
    → Good g (told m t) Tick (Sent (pos 0)) ws (with_memory m (with_state m.memory (Pausing next (ticks - 1))))
wait_tick g m t next ticks ws h rows l =
    let waits : ltb h.waited next.run.dwell ≡ true = lt-ltb _ _ (omega (arith, h.counts)) in
    let over : (o : Bool) → ticked o t.journey ≡ pausing (suc h.waited) m.drive.place h.leg h.legs next.run.dwell =
    λ o. ap (ticked o) h.journey ∙ ap (λ z. cond z (pausing (suc h.waited) m.drive.place h.leg h.legs next.run.dwell) (on_leg o m.drive.place h.leg h.legs next.run.dwell)) waits in
    let due_is : due_in t.journey m.profile.gone m.profile.gone ≡ pos 0 =
    ap (λ j. due_in j m.profile.gone m.profile.gone) h.journey ∙ ap (λ z. cond z (pos 0) (fresh h.leg 0 m.profile.gone)) waits in
    record {
      counted = plus_none m.drive.place;
      kept = refl;
      levels = refl;
      start = refl;
      holds = record {
        rows = rows;
        moving = record {
          waited = suc h.waited;
          leg = h.leg;
          legs = h.legs;
          journey = over _;
          counts = omega (arith, h.counts);
          legs_are = h.legs_are;
          over = h.over;
          ends = h.ends;
          timed = timed_next m.memory.flags.complete t.underway _ _ (omega arith) h.timed;
          free = free_next t.resting _ h.free;
        };
      };
      slow = omega arith;
      call = record {
        sends = ap Sent (sym due_is);
        taken = subst (λ z. Takes g m.drive z m.drive.place) (sym due_is) tt;
        travels = subst (λ j. TravelsOn j (plain m)) (sym h.journey) (subst (λ z. MatchBool z ((is_over (plain m) ≡ true) × (m.drive.place ≡ m.drive.place)) (OnPlan m.drive.place h.leg (plain m))) (sym waits) (eq-eqb _ _ h.over, refl));
      };
      clears = tt;
      arrives = λ x y. absurd (both_ways _ x y);
      stands = tt;
    }

-- a tick at rest
at_rest_due : (j : Journey) (place : ℤ) (p : ProfileMeans) → AtRest j place p → due_in j p.gone p.gone ≡ pos 0
at_rest_due none place p h = refl
at_rest_due (on x l ls w) place p h = absurd h
at_rest_due (pausing u x l ls w) place p h = absurd h
at_rest_due (held x l) place p h = (let z : p.gone / 1000 - p.gone / 1000 ≡ 0 = omega arith in ap (signed l.way) z ∙ signed_zero l.way)

at_rest_next : (o : Bool) (j : Journey) (place : ℤ) (p : ProfileMeans) → AtRest j place p → ticked o j ≡ j
at_rest_next o none place p h = refl
at_rest_next o (on x l ls w) place p h = absurd h
at_rest_next o (pausing u x l ls w) place p h = absurd h
at_rest_next o (held x l) place p h = refl

at_rest_travels : (j : Journey) (v : View) → AtRest j v.position v.profile → TravelsOn j v
at_rest_travels none v h = tt
at_rest_travels (on x l ls w) v h = absurd h
at_rest_travels (pausing u x l ls w) v h = absurd h
at_rest_travels (held x l) v h = (h.0, h.1)

pub one_more_none : (c : Bool) (u : Option Timing) → u ≡ None → cond c None (one_more u) ≡ None
one_more_none true u e = refl
one_more_none false u e = ap one_more e

no_sending : (s : Option Rest) (n : ℕ) → Rests s n → Rests (sending s (pos 0)) n
no_sending None n h = tt
no_sending (Some r) n h = h

pub still_resting : (t : Trace) (o c : Bool) (place : ℤ) (p : ProfileMeans) → IsResting t place p
    → IsResting (record { rows = t.rows; target = t.target; journey = ticked o t.journey; underway = cond c None (one_more t.underway); resting = sending t.resting (pos 0) }) place p
still_resting t o c place p h =
    record {
      journey = subst (λ j. AtRest j place p) (sym (at_rest_next o t.journey place p h.journey)) h.journey;
      over = one_more_none c t.underway h.over;
      slows = no_sending t.resting 0 h.slows;
    }

pub rest_tick :
    (g : ℕ) (m : AxisMeans) (t : Trace) (ws : List ℤ) → Programmed t m → IsResting t m.drive.place m.profile
    → (IsResting (trace_of (account_after (told m t) Tick (Sent (pos 0)) (plain m))) m.drive.place m.profile
    → Moving m.memory.state (trace_of (account_after (told m t) Tick (Sent (pos 0)) (plain m))) m.memory.table m.drive.place m.profile)
    → Good g (told m t) Tick (Sent (pos 0)) ws m
rest_tick g m t ws rows h moves =
    let due_is = at_rest_due t.journey m.drive.place m.profile h.journey in
    record {
      counted = plus_none m.drive.place;
      kept = refl;
      levels = refl;
      start = refl;
      holds = record { rows = rows; moving = moves (still_resting t _ _ m.drive.place m.profile h) };
      slow = omega arith;
      call = record {
        sends = ap Sent (sym due_is);
        taken = subst (λ z. Takes g m.drive z m.drive.place) (sym due_is) tt;
        travels = at_rest_travels t.journey (plain m) h.journey;
      };
      clears = tt;
      arrives = λ x y. absurd (both_ways _ x y);
      stands = tt;
    }
