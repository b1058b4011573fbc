-- Power-up, set-ups, events and stops keep the axis fit.
use Rattle.std.proofs.Common.{◌≡◌, ℕ, ◌*◌, ◌≤◌, Bool, true, false, cond, eqb, ℤ, nat_abs, Ok, Err, Result, arith}
use Rattle.std.proofs.lemmas.Bool.{cond_both, false≢true}
use Rattle.drive.specs.Drives.{DriveMeans, with_trip}
use Rattle.drive.specs.Positions.{distance}
use Rattle.block.specs.declared.event.Event.{Event}
use Rattle.block.specs.declared.event.Event.TheVariants as event
use Rattle.block.specs.declared.refusal.Refusal.{Refusal}
use Rattle.profile.specs.Profiles.{ProfileMeans}
use Rattle.table.specs.Courses.{is_clear}
use Rattle.table.specs.Tables.{TableMeans}
use Rattle.axis.proofs.Readiness.{within}
use Rattle.unrefused.proofs.RowFits.{empty_fits}
use Rattle.axis.specs.Axes.{AxisMeans, powered_up}
use Rattle.axis.specs.EventCalls.{travels, with_level, with_estop, limited, heeded, event_after}
use Rattle.unrefused.specs.Fits.{TableFits, InMotion, Underway, Fit}
use Rattle.axis.specs.Setups.{is_idle, start_fits, configured, misconfigured, setup_after}
use Rattle.axis.specs.Memories.{MemoryMeans, with_state, with_flags, with_levels, with_input}
use Rattle.axis.specs.Stops.{table_stopped, stopped, completed, rested, eased, halted_by_input}
use Rattle.axis.specs.declared.state.Kind.{Kind}
use Rattle.axis.specs.declared.state.Kind.TheVariants.{Single, Blend, Dwell}
use Rattle.axis.specs.declared.state.State.{State}
use Rattle.axis.specs.declared.state.State.TheVariants.{Idle, Programming, Running, Pausing, Holding, Held}
use Rattle.axis.specs.declared.state.Travel.{Travel}

-- the first of two ways, where it is taken
pub first : {X : Type 0} (P : X → Type 0) (b : Bool) (x y : X) → b ≡ true → P x → P (cond b x y)
first P true x y e h = h
first P false x y e h = absurd (false≢true e)

-- either of two ways
pub either : {X : Type 0} (P : X → Type 0) (b : Bool) (x y : X) → P x → P y → P (cond b x y)
either P true x y h k = h
either P false x y h k = k

pub starts_fit : (g : ℕ) → 1 ≤ g → (d : DriveMeans) (p : ProfileMeans) → Fit g (powered_up d p)
starts_fit g l d p = record { table = empty_fits g 1 (omega arith) (omega arith); underway = tt }

-- nothing moves in Idle
idle_rests : (g : ℕ) (s : State) (d : DriveMeans) (p : ProfileMeans) (t : TableMeans) → is_idle s ≡ true → Underway g s d p t
idle_rests g Idle d p t e = tt
idle_rests g Programming d p t e = absurd (false≢true e)
idle_rests g (Running travel) d p t e = absurd (false≢true e)
idle_rests g (Pausing next ticks) d p t e = absurd (false≢true e)
idle_rests g (Holding travel) d p t e = absurd (false≢true e)
idle_rests g (Held target) d p t e = absurd (false≢true e)

module _ (g : ℕ) where
  -- fit over a drive and a profile, with this kept
  abbrev pub Kept : DriveMeans → ProfileMeans → MemoryMeans → Type 0
  Kept d p k = Fit g (record { drive = d; profile = p; memory = k })

  pub setup_fits : (m : AxisMeans) (n : ℤ) → Fit g m → Fit g (setup_after g m n)
  setup_fits m n f =
      let P : MemoryMeans → Type 0 = Kept m.drive m.profile in
      let k = m.memory in
      cond_both (is_idle k.state) _ k P
      (λ e. cond_both (start_fits g n) (configured k (nat_abs n)) (misconfigured k) P
      (λ h. let w = within 1 (1000 * g) n h in record { table = empty_fits g (nat_abs n) w.0 w.1; underway = idle_rests g k.state _ _ _ e })
      (λ h. record { table = empty_fits g k.table.start f.table.starts.0 f.table.starts.1; underway = idle_rests g k.state _ _ _ e }))
      (λ e. record { table = f.table; underway = f.underway })

  stopped_table : (s : State) (t : TableMeans) → TableFits g t → TableFits g (table_stopped s t)
  stopped_table Idle t f = f
  stopped_table Programming t f = empty_fits g t.start f.starts.0 f.starts.1
  stopped_table (Running travel) t f = f
  stopped_table (Pausing next ticks) t f = f
  stopped_table (Holding travel) t f = f
  stopped_table (Held target) t f = f

  module _ (d : DriveMeans) (p : ProfileMeans) where
    pub stop_fits : (k : MemoryMeans) → TableFits g k.table → Kept d p (stopped k)
    stop_fits k f = record { table = stopped_table k.state k.table f; underway = tt }

    halt_fits : (k : MemoryMeans) → TableFits g k.table → Kept d p (halted_by_input k)
    halt_fits k f = stop_fits (with_flags k (with_input k.flags true)) f

    limit_fits : (k : MemoryMeans) → Kept d p k → Kept d p (limited k)
    limit_fits k f = either (Kept d p) (travels k.state) (halted_by_input k) k (halt_fits k f.table) f

  event_fits : (m : AxisMeans) (e : Event) → Fit g m → Fit g (heeded m e)
  event_fits m (event.Limit way true) f =
      let on = with_levels m.memory (with_level m.memory.levels way true) in
      either (Kept m.drive m.profile) (is_clear m.memory.levels.limits way) (limited on) m.memory
      (limit_fits m.drive m.profile on (record { table = f.table; underway = f.underway }))
      (record { table = f.table; underway = f.underway })
  event_fits m (event.Limit way false) f = record { table = f.table; underway = f.underway }
  event_fits m (event.EStop true) f =
      let on = with_levels m.memory (with_estop m.memory.levels true) in
      either (Kept m.drive m.profile) m.memory.levels.estop m.memory (halted_by_input on)
      (record { table = f.table; underway = f.underway })
      (halt_fits m.drive m.profile on f.table)
  event_fits m (event.EStop false) f = record { table = f.table; underway = f.underway }
  event_fits m event.Trip f =
      let P : AxisMeans → Type 0 = λ x. Fit g x in
      either P m.drive.tripped m _ f (stop_fits (with_trip m.drive true) m.profile m.memory f.table)

  pub code_fits : (m : AxisMeans) (e : Result Event Refusal) → Fit g m → Fit g (event_after m e)
  code_fits m (Ok e) f = event_fits m e f
  code_fits m (Err why) f = f

  -- the end of holding
  module _ (d : DriveMeans) (p : ProfileMeans) (k : MemoryMeans) where
    rested_fits : (kind : Kind) → TableFits g k.table → Kept d p (rested k d.place kind)
    rested_fits (Single target) f =
        either (Kept d p) (eqb (distance d.place target) 0) (completed k) (with_state k (Held target))
        (record { table = f; underway = tt }) (record { table = f; underway = tt })
    rested_fits Blend f = record { table = f; underway = tt }
    rested_fits (Dwell row) f = record { table = f; underway = tt }

    pub eased_fits : (travel : Travel) → TableFits g k.table → InMotion g travel.direction d p → Kept d p (eased k (eqb p.left 0) d.place travel)
    eased_fits travel f i = either (Kept d p) (eqb p.left 0) _ _ (rested_fits travel.kind f) (record { table = f; underway = i })
