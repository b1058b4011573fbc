-- A tick while a hold brakes, and ticks in every state.
use Rattle.std.proofs.Common.{◌≡◌, ℕ, suc, List, ◌+◌, ◌-◌, ◌≤◌, Bool, true, false, cond, eqb, ℤ, pos, ◌+ℤ◌, nat_abs, Some, None, Option, MatchBool, refl, sym, ap, ◌∙◌, subst, arith}
use Rattle.std.proofs.lemmas.Bool.{cond_both, eqb-true, eqb-false, both_ways, or_right}
use Rattle.std.proofs.lemmas.Bool.Decides.{when_true}
use Rattle.std.proofs.lemmas.Int.{ints}
use Rattle.drive.specs.Drives.{DriveMeans}
use Rattle.drive.specs.Positions.{distance}
use Rattle.profile.specs.Plans.{PlanMeans}
use Rattle.profile.specs.Profiles.{ProfileMeans, Sound}
use Rattle.table.specs.TablePlans.{row_plan}
use Rattle.table.specs.Tables.{TableMeans}
use Rattle.axis.specs.Axes.{AxisMeans, with_memory}
use Rattle.axis.specs.Carrying.{began, row_travel}
use Rattle.axis.specs.Memories.{MemoryMeans, with_state}
use Rattle.axis.specs.Stops.{stopped, completed, rested, eased}
use Rattle.axis.specs.Ticks.{due, takes_all, sent_to, steps_sent, moved, moved_on, is_plan, row_steps, row_begun, OneTick, FirstTick, tick_steps, tick_after, TickUses}
use Rattle.axis.specs.declared.order.DwellRow.{DwellRow}
use Rattle.axis.specs.declared.state.Kind.{Kind}
use Rattle.axis.specs.declared.state.Kind.TheVariants.{Single, Blend, Dwell}
use Rattle.axis.specs.declared.state.State.{State}
use Rattle.axis.specs.declared.state.State.TheVariants.{Idle, Programming, Running, Pausing, Holding, Held}
use Rattle.axis.specs.declared.state.Travel.{Travel}
use Rattle.unrefused.proofs.RowFits.{row_lawful}
use Rattle.unrefused.specs.Fits.{Underway, UnrefusedIn, Fit}
use Rattle.law.proofs.Facts.{plain, Trace, told, trace_of, Aims, Rests, AtRest, OnLeg, IsPausing, IsHolding, IsResting, Moving, Programmed}
use Rattle.law.proofs.Goods.{Good}
use Rattle.law.proofs.Legs.{takes_it}
use Rattle.law.proofs.Ticks.{over_is, stands, still_on, is_due, is_slow, one_less, one_more_none, run_tick, row_tick, wait_tick, rest_tick}
use Rattle.law.specs.Accounts.{Rest, account_after, one_more, sending}
use Rattle.law.specs.Calls.{Tick, Sent}
use Rattle.law.specs.Journeys.{Journey, held, ticked, due_in}
use Rattle.law.specs.Law.{TravelsOn, Takes, Arrives, Still}

slowed_next : (s : Option Rest) (n : ℤ) (a b : ℕ) → suc a ≤ b → Rests s b → Rests (sending s n) a
slowed_next None n a b l h = tt
slowed_next (Some r) n a b l h =
    cond_both (eqb (nat_abs n) 0) r.sent (suc r.sent) (λ z. z + a ≤ r.allowed) (λ e. omega (arith, l, h)) (λ e. omega (arith, l, h))

pub no_distance : (p q : ℤ) → distance p q ≡ 0 → q ≡ p
no_distance p q e = grind (arith, ints)

module _ (g : ℕ) (m : AxisMeans) (t : Trace) (travel : Travel) (p : ProfileMeans) (ws : List ℤ) (h : IsHolding t m.drive.place m.profile travel.direction travel.kind) (rows : m.memory.table.ready ≡ true → t.rows ≡ m.memory.table.rows) (u : OneTick m.profile p) (s : Sound p) (taken : takes_all g m.drive (due travel.direction m.profile.gone p) ≡ true) where
  abbrev n : ℤ
  n = due travel.direction m.profile.gone p

  abbrev d' : DriveMeans
  d' = sent_to g m.drive n

  abbrev k : MemoryMeans
  k = (moved g m travel.direction m.profile.gone p).memory

  abbrev P : MemoryMeans → Type 0
  P k' = Good g (told m t) Tick (Sent n) ws (record { drive = d'; profile = p; memory = k' })

  there : OnLeg h.from h.leg travel.direction d'.place p
  there = still_on g m.drive h.from h.leg travel.direction m.profile p u.advance h.leg_is u.ticked s taken

  journey : (o : Bool) → ticked o t.journey ≡ held h.from h.leg
  journey o = ap (ticked o) h.journey

  one : suc p.left ≡ m.profile.left
  one = one_less g m.drive h.from h.leg travel.direction m.profile p u.advance h.leg_is u.ticked s taken h.busy

  due_same : due_in t.journey m.profile.gone p.gone ≡ n
  due_same = ap (λ j. due_in j m.profile.gone p.gone) h.journey ∙ is_due g m.drive h.from h.leg travel.direction m.profile p u.advance h.leg_is u.ticked s taken

  far : d'.place ≡ m.drive.place +ℤ n
  far = stands g m.drive h.from h.leg travel.direction m.profile p u.advance h.leg_is u.ticked s taken

  good : (k' : MemoryMeans) → k.kept ≡ k'.kept → k.levels ≡ k'.levels → k.table ≡ k'.table → Programmed t (record { drive = d'; profile = p; memory = k' })
      → Moving k'.state (trace_of (account_after (told m t) Tick (Sent n) (plain (record { drive = d'; profile = p; memory = k' })))) k'.table d'.place p
      → Arrives (told m t) (account_after (told m t) Tick (Sent n) (plain (record { drive = d'; profile = p; memory = k' }))).journey (plain (record { drive = d'; profile = p; memory = k' })) → P k'
  good k' e₁ e₂ e₃ rows moving arrives =
      record {
        counted = sym far;
        kept = e₁;
        levels = e₂;
        start = ap (λ (tb : TableMeans). tb.start) e₃;
        holds = record { rows = rows; moving = moving };
        slow = is_slow g m.drive h.from h.leg travel.direction m.profile p u.advance h.leg_is u.ticked s taken;
        call = record {
          sends = ap Sent (sym due_same);
          taken = subst (λ z. Takes g m.drive z d'.place) (sym due_same) (takes_it g m.drive n d'.place taken far);
          travels = subst (λ j. TravelsOn j (plain (record { drive = d'; profile = p; memory = k' }))) (sym h.journey) (there.plan_is, there.keeps_up);
        };
        clears = tt;
        arrives = arrives;
        stands = tt;
      }

  -- at rest after it
  resting : eqb p.left 0 ≡ true → (o c : Bool) → IsResting (record { rows = t.rows; target = t.target; journey = ticked o t.journey; underway = cond c None (one_more t.underway); resting = sending t.resting n }) d'.place p
  resting e o c =
      record {
        journey = subst (λ j. AtRest j d'.place p) (sym (journey o)) (there.plan_is, there.keeps_up, over_is p s ∙ e);
        over = one_more_none c t.underway h.over;
        slows = slowed_next t.resting n 0 m.profile.left (omega (arith, one)) h.slows;
      }

  not_set : (j : Journey) → Arrives (told m t) j (plain (record { drive = d'; profile = p; memory = k }))
  not_set j x y = absurd (both_ways _ x y)

  rests : eqb p.left 0 ≡ true → (kind : Kind) → Aims kind t.target → P (rested k d'.place kind)
  rests z (Single target) aims =
      cond_both (eqb (distance d'.place target) 0) _ _ P
      (λ e. good (completed k) refl refl refl rows (resting z _ true)
      (λ x y. (sym (no_distance d'.place target (eqb-true _ _ e)) ∙ aims, subst (λ j. Still j (plain (record { drive = d'; profile = p; memory = completed k }))) (sym (journey _)) (over_is p s ∙ z))))
      (λ e. good (with_state k (Held target)) refl refl refl rows (resting z _ _, aims) (not_set _))
  rests z Blend aims = good (with_state k Idle) refl refl refl rows (resting z _ _) (not_set _)
  rests z (Dwell row) aims = good (with_state k Idle) refl refl refl rows (resting z _ _) (not_set _)

  eases : P (eased k (eqb p.left 0) d'.place travel)
  eases =
      cond_both (eqb p.left 0) _ _ P
      (λ e. rests e travel.kind h.aims)
      (λ e.
      let left = eqb-false _ _ e in
      good (with_state k (Holding travel)) refl refl refl rows
      (record {
        from = h.from;
        leg = h.leg;
        journey = journey _;
        leg_is = there;
        busy = omega arith;
        aims = h.aims;
        over = one_more_none _ t.underway h.over;
        slows = slowed_next t.resting n p.left m.profile.left (omega (arith, one)) h.slows;
      })
      (not_set _))

  pub hold_tick : Good g (told m t) Tick (Sent (steps_sent g m travel.direction m.profile.gone p)) ws (moved_on g (Holding travel) m travel.direction m.profile.gone p)
  hold_tick =
      subst
      (λ z. Good g (told m t) Tick (Sent (cond z n (pos 0))) ws
      (with_memory (moved g m travel.direction m.profile.gone p) (cond z (eased k (eqb p.left 0) d'.place travel) (stopped k))))
      (sym taken) eases

-- a tick in a pause
pause_tick :
    (g : ℕ) (m : AxisMeans) (t : Trace) (next : DwellRow) (ticks : ℕ) (p : ProfileMeans) (ws : List ℤ) → Fit g m
    → Underway g (Pausing next ticks) m.drive m.profile m.memory.table
    → Moving (Pausing next ticks) t m.memory.table m.drive.place m.profile → (m.memory.table.ready ≡ true → t.rows ≡ m.memory.table.rows)
    → TickUses (Pausing next ticks) m p → UnrefusedIn g (Pausing next ticks) m p → Sound p
    → Good g (told m t) Tick (Sent (tick_steps g (Pausing next ticks) m p)) ws (tick_after g (Pausing next ticks) m p)
pause_tick g m t next ticks p ws f u h rows uses taken s = on (eqb ticks 0) refl uses taken
  where
    plan : PlanMeans
    plan = row_plan m.memory.table next.run.rates next.index

    travel : Travel
    travel = row_travel m.memory.table next

    first : ticks ≡ 0 → (is_plan plan ≡ true) × (takes_all g m.drive (due travel.direction 0 p) ≡ true) → MatchBool (is_plan plan) (FirstTick m.profile plan p) (p ≡ m.profile)
        → Good g (told m t) Tick (Sent (row_steps g m next p)) ws (row_begun g m next p)
    first z q w =
        subst
        (λ b. Good g (told m t) Tick (Sent (cond b (steps_sent g m travel.direction 0 p) (pos 0))) ws
        (cond b (moved_on g (Running travel) (began m travel p) travel.direction 0 p) (with_memory m (stopped m.memory))))
        (sym q.0)
        (row_tick g m t next p ws (subst (λ n. IsPausing t m.memory.table m.drive.place m.profile next n) z h) rows u.within
        (row_lawful g m.drive m.memory.table next f.table u) (when_true _ _ q.0 w) s q.1)

    on : (b : Bool) → eqb ticks 0 ≡ b → MatchBool b (MatchBool (is_plan plan) (FirstTick m.profile plan p) (p ≡ m.profile)) (p ≡ m.profile)
        → MatchBool b ((is_plan plan ≡ true) × (takes_all g m.drive (due travel.direction 0 p) ≡ true)) (Unit {0})
        → Good g (told m t) Tick (Sent (cond b (row_steps g m next p) (pos 0))) ws (cond b (row_begun g m next p) (with_memory m (with_state m.memory (Pausing next (ticks - 1)))))
    on true e w q = first (eqb-true _ _ e) q w
    on false e w q = let n = eqb-false _ _ e in wait_tick g m t next ticks ws h rows (omega arith)

pub by_state : (m : AxisMeans) (t : Trace) (s : State) → m.memory.state ≡ s → Moving s t m.memory.table m.drive.place m.profile → Moving m.memory.state t m.memory.table m.drive.place m.profile
by_state m t s e h = subst (λ z. Moving z t m.memory.table m.drive.place m.profile) (sym e) h

abbrev waited : AxisMeans → Trace → Trace
waited m t = trace_of (account_after (told m t) Tick (Sent (pos 0)) (plain m))

pub tick_good :
    (g : ℕ) (m : AxisMeans) (t : Trace) (s : State) (p : ProfileMeans) (ws : List ℤ) → Fit g m → m.memory.state ≡ s
    → Underway g s m.drive m.profile m.memory.table → Programmed t m → Moving s t m.memory.table m.drive.place m.profile → TickUses s m p → UnrefusedIn g s m p → Sound p
    → Good g (told m t) Tick (Sent (tick_steps g s m p)) ws (tick_after g s m p)
tick_good g m t Idle p ws f e u rows h uses taken s = rest_tick g m t ws rows h (λ r. by_state m (waited m t) Idle e r)
tick_good g m t Programming p ws f e u rows h uses taken s = rest_tick g m t ws rows h (λ r. by_state m (waited m t) Programming e r)
tick_good g m t (Running travel) p ws f e u rows h uses taken s = run_tick g m t travel p ws h (λ r. rows (or_right _ _ r)) uses s taken
tick_good g m t (Pausing next ticks) p ws f e u rows h uses taken s = pause_tick g m t next ticks p ws f u h (λ r. rows (or_right _ _ r)) uses taken s
tick_good g m t (Holding travel) p ws f e u rows h uses taken s = hold_tick g m t travel p ws h (λ r. rows (or_right _ _ r)) uses s taken
tick_good g m t (Held target) p ws f e u rows h uses taken s = rest_tick g m t ws rows h.0 (λ r. by_state m (waited m t) (Held target) e (r, h.1))
