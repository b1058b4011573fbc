-- A tick of a fit axis is not refused, and keeps it fit.
use Rattle.std.proofs.Common.{◌≡◌, ℕ, ◌+◌, ◌-◌, Bool, true, false, cond, eqb, ltb, length, ℤ, MatchBool, sym, ap, subst}
use Rattle.std.proofs.lemmas.Bool.{cond_both, eqb-true, ltb-true}
use Rattle.std.proofs.lemmas.Bool.Decides.{when_true}
use Rattle.drive.specs.Drives.{DriveMeans}
use Rattle.drive.specs.Positions.{is_position}
use Rattle.profile.specs.Profiles.{ProfileMeans, Sound}
use Rattle.table.specs.TablePlans.{row_plan}
use Rattle.unrefused.proofs.CallFits.{Kept, first, eased_fits}
use Rattle.unrefused.proofs.Motions.{takes, same_end, moves_on, at_end}
use Rattle.unrefused.proofs.RowFits.{lawful_plan, row_lawful, row_begins, row_leaves}
use Rattle.axis.specs.Axes.{AxisMeans, with_memory}
use Rattle.axis.specs.Memories.{MemoryMeans, with_state}
use Rattle.axis.specs.Carrying.{began, row_travel}
use Rattle.unrefused.specs.Fits.{TableFits, InMotion, end_of, Afterwards, InPause, Underway, Fit, UnrefusedIn, Unrefused}
use Rattle.axis.specs.Stops.{stopped, plan_ended, arrived}
use Rattle.axis.specs.Ticks.{due, takes_all, moved, moved_on, is_plan, row_begun, OneTick, FirstTick, tick_after, TickUses}
use Rattle.axis.specs.declared.order.DwellRow.{DwellRow}
use Rattle.axis.specs.declared.state.Kind.{Kind}
use Rattle.axis.specs.declared.state.Kind.TheVariants.{Single, Blend, Dwell}
use Rattle.axis.specs.declared.state.State.{State}
use Rattle.axis.specs.declared.state.State.TheVariants.{Idle, Programming, Running, Pausing, Holding, Held}
use Rattle.axis.specs.declared.state.Travel.{Travel}

module _ (g : ℕ) where
  -- the end of a plan, with the drive at its end
  module _ (d : DriveMeans) (p : ProfileMeans) (k : MemoryMeans) where
    ended_fits : (kind : Kind) → TableFits g k.table → d.tripped ≡ false → Afterwards k.table d.place kind → Kept g d p (plan_ended k kind)
    ended_fits (Single target) f u a = record { table = f; underway = tt }
    ended_fits Blend f u a = record { table = f; underway = tt }
    ended_fits (Dwell row) f u a =
        cond_both (ltb (row.index + 1) (length k.table.rows)) _ _ (Kept g d p)
        (λ e. record { table = f; underway = record { untripped = u; within = ltb-true (row.index + 1) (length k.table.rows) e; later = a } })
        (λ e. record { table = f; underway = tt })

    arrived_fits :
        (travel : Travel) → TableFits g k.table → Sound p → InMotion g travel.direction d p
        → Afterwards k.table (end_of travel.direction d p) travel.kind → Kept g d p (arrived k (eqb p.left 0) travel)
    arrived_fits travel f s i a =
        let P : ℤ → Type 0 = λ z. Afterwards k.table z travel.kind in
        cond_both (eqb p.left 0) _ _ (Kept g d p)
        (λ e. ended_fits travel.kind f i.untripped (subst P (at_end travel.direction d p s (eqb-true _ _ e)) a))
        (λ e. record { table = f; underway = (i, a) })

  -- a tick of a plan, whose profile meant `before` when it began
  module _ (m : AxisMeans) (travel : Travel) (before p : ProfileMeans) (f : TableFits g m.memory.table) (here : is_position m.drive.place ≡ true) (i : InMotion g travel.direction m.drive before) (t : OneTick before p) (s : Sound p) where
    abbrev after : AxisMeans
    after = moved g m travel.direction before.gone p

    -- what its end makes of what is kept
    abbrev Goes : MemoryMeans → Type 0
    Goes k = Kept g after.drive p k

    pub taken : takes_all g m.drive (due travel.direction before.gone p) ≡ true
    taken = takes g travel.direction m.drive before p t.advance here i t.ticked s

    pub ran_fits : Afterwards m.memory.table (end_of travel.direction m.drive before) travel.kind → Fit g (moved_on g (Running travel) m travel.direction before.gone p)
    ran_fits a =
        let P : ℤ → Type 0 = λ z. Afterwards m.memory.table z travel.kind in
        first Goes _ _ _ taken
        (arrived_fits after.drive p after.memory travel f s
        (moves_on g travel.direction m.drive before p t.advance here i t.ticked s)
        (subst P (sym (same_end g travel.direction m.drive before p t.advance here i t.ticked s)) a))

    pub held_fits : Fit g (moved_on g (Holding travel) m travel.direction before.gone p)
    held_fits =
        first Goes _ _ _ taken
        (eased_fits g after.drive p after.memory travel f
        (moves_on g travel.direction m.drive before p t.advance here i t.ticked s))

  -- the tick that begins a row of a dwell move
  module _ (m : AxisMeans) (row : DwellRow) (p : ProfileMeans) (f : TableFits g m.memory.table) (here : is_position m.drive.place ≡ true) (pause : InPause m.drive m.memory.table row) (s : Sound p) where
    row_is_plan : is_plan (row_plan m.memory.table row.run.rates row.index) ≡ true
    row_is_plan = lawful_plan (row_plan m.memory.table row.run.rates row.index) (row_lawful g m.drive m.memory.table row f pause)

    row_ticks :
        FirstTick m.profile (row_plan m.memory.table row.run.rates row.index) p
        → (takes_all g m.drive (due (row_travel m.memory.table row).direction 0 p) ≡ true) × Fit g (moved_on g (Running (row_travel m.memory.table row)) (began m (row_travel m.memory.table row) p) (row_travel m.memory.table row).direction 0 p)
    row_ticks t =
        let b = t.begun in
        let i = row_begins g m.drive m.memory.table row f pause m.profile b t.begins in
        let a = row_leaves g m.drive m.memory.table row f pause m.profile b t.begins in
        let z : b.gone ≡ 0 = ap (λ x. x.gone) t.begins.after in
        let P : ℕ → Type 0 = λ n. takes_all g m.drive (due (row_travel m.memory.table row).direction n p) ≡ true in
        let Q : ℕ → Type 0 = λ n. Fit g (moved_on g (Running (row_travel m.memory.table row)) (began m (row_travel m.memory.table row) p) (row_travel m.memory.table row).direction n p) in (
          subst P z (taken m (row_travel m.memory.table row) b p f here i t.ticks s),
          subst Q z (ran_fits (began m (row_travel m.memory.table row) p) (row_travel m.memory.table row) b p f here i t.ticks s a),
        )

    pause_ticks :
        (over : Bool) (ticks : ℕ)
        → MatchBool over (MatchBool (is_plan (row_plan m.memory.table row.run.rates row.index)) (FirstTick m.profile (row_plan m.memory.table row.run.rates row.index) p) (p ≡ m.profile)) (p ≡ m.profile)
        → MatchBool over ((is_plan (row_plan m.memory.table row.run.rates row.index) ≡ true) × (takes_all g m.drive (due (row_travel m.memory.table row).direction 0 p) ≡ true)) (Unit {0})
        × Fit g (cond over (row_begun g m row p) (with_memory m (with_state m.memory (Pausing row ticks))))
    pause_ticks true ticks t =
        let r = row_ticks (when_true _ _ row_is_plan t) in
        let P : AxisMeans → Type 0 = λ x. Fit g x in
        ((row_is_plan, r.0), first P _ _ (with_memory m (stopped m.memory)) row_is_plan r.1)
    pause_ticks false ticks t = (tt, record { table = f; underway = pause })

  tick_state :
      (s : State) (m : AxisMeans) (p : ProfileMeans) → is_position m.drive.place ≡ true → Fit g m
      → Underway g s m.drive m.profile m.memory.table → Sound p → TickUses s m p → UnrefusedIn g s m p × Fit g (tick_after g s m p)
  tick_state Idle m p here f u s t = (tt, f)
  tick_state Programming m p here f u s t = (tt, f)
  tick_state (Running travel) m p here f u s t =
      (taken m travel m.profile p f.table here u.0 t s, ran_fits m travel m.profile p f.table here u.0 t s u.1)
  tick_state (Pausing next ticks) m p here f u s t = pause_ticks m next p f.table here u s (eqb ticks 0) (ticks - 1) t
  tick_state (Holding travel) m p here f u s t =
      (taken m travel m.profile p f.table here u t s, held_fits m travel m.profile p f.table here u t s)
  tick_state (Held target) m p here f u s t = (tt, f)

  pub tick_fits :
      (m : AxisMeans) (p : ProfileMeans) → is_position m.drive.place ≡ true → Fit g m → Sound p → TickUses m.memory.state m p
      → Unrefused g m p × Fit g (tick_after g m.memory.state m p)
  tick_fits m p here f s t = tick_state m.memory.state m p here f f.underway s t
