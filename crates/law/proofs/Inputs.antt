-- Set-ups, events and readings.
use Rattle.std.proofs.Common.{◌≡◌, ℕ, Bool, true, false, cond, not, ◌||◌, List, ℤ, pos, nat_abs, Ok, Err, Result, refl, sym, ap, ◌∙◌, subst, arith}
use Rattle.std.proofs.lemmas.Bool.{both_ways, false≢true, true≢false}
use Rattle.drive.specs.Drives.{DriveMeans, with_trip}
use Rattle.drive.specs.declared.direction.Direction.{Direction}
use Rattle.drive.specs.declared.direction.Direction.TheVariants.{Cw, Ccw}
use Rattle.profile.specs.Profiles.{ProfileMeans}
use Rattle.block.specs.Events.{event_of}
use Rattle.block.specs.declared.event.Event.{Event}
use Rattle.block.specs.declared.event.Event.TheVariants as event
use Rattle.block.specs.declared.refusal.Refusal.{Refusal}
use Rattle.block.specs.declared.refusal.Refusal.TheVariants as refusal
use Rattle.table.specs.Courses.{is_clear}
use Rattle.table.specs.Tables.{TableMeans, emptied}
use Rattle.axis.specs.Axes.{AxisMeans, with_memory}
use Rattle.axis.specs.EventCalls.{travels, with_level, with_estop, limited, event_answer, event_after}
use Rattle.axis.specs.Questions.{programs}
use Rattle.axis.specs.Memories.{MemoryMeans, with_flags, with_levels, with_input}
use Rattle.axis.specs.Readings.{reading_answer, filled, status_words}
use Rattle.axis.specs.Setups.{is_idle, start_fits, configured, misconfigured, setup_answer, setup_after}
use Rattle.axis.specs.Stops.{stopped, halted_by_input}
use Rattle.axis.specs.declared.flags.Levels.{Levels}
use Rattle.axis.specs.declared.state.State.{State}
use Rattle.axis.specs.declared.state.State.TheVariants.{Idle, Programming, Running, Pausing, Holding, Held}
use Rattle.law.proofs.Changes.{trace_by, good_by, stopped_rows, stopped_start, stopped_rests}
use Rattle.law.proofs.Facts.{plain, Trace, told, unmoved, rests_still, moves_still, IsResting, Moving, Holds}
use Rattle.law.proofs.Goods.{Good}
use Rattle.law.specs.Accounts.{Account, Stops, Nothing, comes_on, event_effect, levels_by}
use Rattle.law.specs.Calls.{SetUp, Event as EventCall, Reading, Replied, Read}

-- ---- set-ups

idle_rests : (s : State) (t : Trace) (tb : TableMeans) (place : ℤ) (p : ProfileMeans) → is_idle s ≡ true → Moving s t tb place p → IsResting t place p
idle_rests Idle t tb place p e h = h
idle_rests Programming t tb place p e h = absurd (false≢true e)
idle_rests (Running travel) t tb place p e h = absurd (false≢true e)
idle_rests (Pausing next ticks) t tb place p e h = absurd (false≢true e)
idle_rests (Holding travel) t tb place p e h = absurd (false≢true e)
idle_rests (Held target) t tb place p e h = absurd (false≢true e)

rests_idle : (s : State) (t : Trace) (tb : TableMeans) (place : ℤ) (p : ProfileMeans) → is_idle s ≡ true → IsResting t place p → Moving s t tb place p
rests_idle Idle t tb place p e h = h
rests_idle Programming t tb place p e h = absurd (false≢true e)
rests_idle (Running travel) t tb place p e h = absurd (false≢true e)
rests_idle (Pausing next ticks) t tb place p e h = absurd (false≢true e)
rests_idle (Holding travel) t tb place p e h = absurd (false≢true e)
rests_idle (Held target) t tb place p e h = absurd (false≢true e)

idle_programs : (s : State) → is_idle s ≡ true → (programs s || false) ≡ false
idle_programs Idle e = refl
idle_programs Programming e = absurd (false≢true e)
idle_programs (Running travel) e = refl
idle_programs (Pausing next ticks) e = refl
idle_programs (Holding travel) e = refl
idle_programs (Held target) e = refl

-- what holds after a call that does nothing to the motion, and leaves state, table, place and profile
pub quiet : (m : AxisMeans) (t : Trace) → Holds m t → Holds m (unmoved t m.memory.flags.complete)
quiet m t h = record { rows = h.rows; moving = moves_still m.memory.state m.memory.flags.complete t m.memory.table m.drive.place m.profile h.moving }

pub setup_good :
    (g : ℕ) (m : AxisMeans) (t : Trace) (n : ℤ) (ws : List ℤ) → Holds m t
    → Good g (told m t) (SetUp n) (Replied (setup_answer g m n)) ws (setup_after g m n)
setup_good g m t n ws h = on (is_idle m.memory.state) refl (start_fits g n)
  where
    k : MemoryMeans
    k = m.memory

    empties : (x : MemoryMeans) (S : ℕ) → is_idle k.state ≡ true → x.state ≡ k.state → x.table ≡ emptied S → x.flags.complete ≡ k.flags.complete
        → Holds (with_memory m x) (unmoved t x.flags.complete)
    empties x S e s tb c =
        record {
          rows = λ r. absurd (both_ways _ (ap (λ z. programs z || x.table.ready) s ∙ (ap (λ (z : TableMeans). programs k.state || z.ready) tb ∙ idle_programs k.state e)) r);
          moving = subst (λ z. Moving z (unmoved t x.flags.complete) x.table m.drive.place m.profile) (sym s)
              (rests_idle k.state (unmoved t x.flags.complete) x.table m.drive.place m.profile e
              (rests_still x.flags.complete t m.drive.place m.profile (idle_rests k.state t k.table m.drive.place m.profile e h.moving)));
        }

    on : (b : Bool) → is_idle k.state ≡ b → (c : Bool)
        → Good g (told m t) (SetUp n) (Replied (cond b (cond c (Ok tt) (Err refusal.StartSpeed)) (Err refusal.State))) ws (with_memory m (cond b (cond c (configured k (nat_abs n)) (misconfigured k)) k))
    on true e true = good_by Nothing t.rows refl refl refl refl refl refl (empties (configured k (nat_abs n)) (nat_abs n) e refl refl refl) (omega arith) tt tt (λ x y. absurd (both_ways _ x y)) tt
    on true e false = good_by Nothing t.rows refl refl refl refl refl refl (empties (misconfigured k) k.table.start e refl refl refl) (omega arith) tt tt (λ x y. absurd (both_ways _ x y)) tt
    on false e c = good_by Nothing t.rows refl refl refl refl refl refl (quiet m t h) (omega arith) tt tt (λ x y. absurd (both_ways _ x y)) tt

-- ---- readings

pub reading_good :
    (g : ℕ) (m : AxisMeans) (t : Trace) (buffer : List ℤ) → Holds m t
    → Good g (told m t) (Reading buffer) (Read (reading_answer buffer) (filled (status_words m) buffer)) (status_words m) m
reading_good g m t buffer h =
    good_by Nothing t.rows refl refl refl refl refl refl (quiet m t h) (omega arith) (record { reads = refl; keeps = refl }) tt (λ x y. absurd (both_ways _ x y)) tt

-- ---- events

same_level : (l : Levels) (way : Direction) → is_clear l.limits way ≡ false → with_level l way true ≡ l
same_level l Cw e = on l.limits.cw e
  where
    on : (b : Bool) → not b ≡ false → ◌≡◌ {A = Levels} (record { limits = record { cw = true; ccw = l.limits.ccw }; estop = l.estop }) (record { limits = record { cw = b; ccw = l.limits.ccw }; estop = l.estop })
    on true h = refl
    on false h = absurd (true≢false h)
same_level l Ccw e = on l.limits.ccw e
  where
    on : (b : Bool) → not b ≡ false → ◌≡◌ {A = Levels} (record { limits = record { cw = l.limits.cw; ccw = true }; estop = l.estop }) (record { limits = record { cw = l.limits.cw; ccw = b }; estop = l.estop })
    on true h = refl
    on false h = absurd (true≢false h)

-- a limit that comes on while nothing moves
rests_limited : (s : State) (a : Account) (rows : List _) (v : _) (tb : TableMeans) (place : ℤ) (p : ProfileMeans) (t : Trace) → travels s ≡ false → a.target ≡ t.target → Moving s t tb place p
    → Moving s (trace_by a Stops rows (pos 0) v) tb place p
rests_limited Idle a rows v tb place p t e f h = stopped_rests t place p v (pos 0) a rows
rests_limited Programming a rows v tb place p t e f h = stopped_rests t place p v (pos 0) a rows
rests_limited (Running travel) a rows v tb place p t e f h = absurd (true≢false e)
rests_limited (Pausing next ticks) a rows v tb place p t e f h = absurd (true≢false e)
rests_limited (Holding travel) a rows v tb place p t e f h = absurd (true≢false e)
rests_limited (Held target) a rows v tb place p t e f h = (stopped_rests t place p v (pos 0) a rows, h.1 ∙ sym f)

module _ (g : ℕ) (m : AxisMeans) (t : Trace) (n : ℤ) (ws : List ℤ) (h : Holds m t) where
  abbrev k : MemoryMeans
  k = m.memory

  abbrev G : Result Event Refusal → AxisMeans → Type 0
  G e m' = Good g (told m t) (EventCall n) (Replied (event_answer e)) ws m'

  not_set : {b : Bool} → b ≡ false → b ≡ true → {X : Type 0} → X
  not_set x y = absurd (both_ways _ x y)

  -- a full stop, of what is kept with other levels or flags
  stops : (e : Event) → event_of n ≡ Ok e → comes_on (told m t) e ≡ true → (d : DriveMeans) → d.place ≡ m.drive.place → (x : MemoryMeans)
      → x.kept ≡ k.kept → x.state ≡ k.state → x.table ≡ k.table → x.flags.complete ≡ k.flags.complete → levels_by k.levels (Ok e) ≡ x.levels
      → G (Ok e) (record { drive = d; profile = m.profile; memory = stopped x })
  stops e f on d there x ke st tb co le =
      good_by Stops t.rows (ap (event_effect (told m t)) f ∙ ap (λ b. cond b Stops Nothing) on) refl (sym there) (sym ke) (ap (levels_by k.levels) f ∙ le)
      (ap (λ (z : TableMeans). z.start) (sym tb) ∙ stopped_start x.state x.table)
      (record {
        rows = stopped_rows x.state x.table t.rows (λ r. h.rows (sym (ap (λ s. programs s || x.table.ready) st ∙ ap (λ (z : TableMeans). programs k.state || z.ready) tb) ∙ r) ∙ ap (λ (z : TableMeans). z.rows) (sym tb));
        moving = stopped_rests t d.place m.profile (plain (record { drive = d; profile = m.profile; memory = stopped x })) (pos 0) (told m t) t.rows;
      })
      (omega arith) tt tt (λ a b. absurd (both_ways _ a (sym co ∙ b))) tt

  -- nothing but levels
  keeps : (e : Event) → event_of n ≡ Ok e → comes_on (told m t) e ≡ false → (l : Levels) → levels_by k.levels (Ok e) ≡ l → G (Ok e) (with_memory m (with_levels k l))
  keeps e f on l le =
      good_by Nothing t.rows (ap (event_effect (told m t)) f ∙ ap (λ b. cond b Stops Nothing) on) refl refl refl (ap (levels_by k.levels) f ∙ le) refl
      (record { rows = h.rows; moving = (quiet m t h).moving }) (omega arith) tt tt (λ a b. absurd (both_ways _ a b)) tt

  limits : (way : Direction) → event_of n ≡ Ok (event.Limit way true) → (b : Bool) → is_clear k.levels.limits way ≡ b
      → G (Ok (event.Limit way true)) (with_memory m (cond b (limited (with_levels k (with_level k.levels way true))) k))
  limits way f true c = on (travels k.state) refl
    where
      x : MemoryMeans
      x = with_levels k (with_level k.levels way true)

      on : (b : Bool) → travels k.state ≡ b → G (Ok (event.Limit way true)) (with_memory m (cond b (halted_by_input x) x))
      on true e = stops (event.Limit way true) f c m.drive refl (with_flags x (with_input x.flags true)) refl refl refl refl refl
      on false e =
          good_by Stops t.rows (ap (event_effect (told m t)) f ∙ ap (λ b. cond b Stops Nothing) c) refl refl refl (ap (levels_by k.levels) f) refl
          (record { rows = h.rows; moving = rests_limited k.state (told m t) t.rows (plain (with_memory m x)) k.table m.drive.place m.profile t e refl h.moving })
          (omega arith) tt tt (λ a b. absurd (both_ways _ a b)) tt
  limits way f false c = keeps (event.Limit way true) f c k.levels (same_level k.levels way c)

  estops : event_of n ≡ Ok (event.EStop true) → (b : Bool) → k.levels.estop ≡ b
      → G (Ok (event.EStop true)) (with_memory m (cond b k (halted_by_input (with_levels k (with_estop k.levels true)))))
  estops f true c = keeps (event.EStop true) f (ap not c) k.levels (ap (λ b. record { limits = k.levels.limits; estop = b }) (sym c))
  estops f false c =
      let x = with_levels k (with_estop k.levels true) in
      stops (event.EStop true) f (ap not c) m.drive refl (with_flags x (with_input x.flags true)) refl refl refl refl refl

  trips : event_of n ≡ Ok event.Trip → (b : Bool) → m.drive.tripped ≡ b
      → G (Ok event.Trip) (cond b m (record { drive = with_trip m.drive true; profile = m.profile; memory = stopped k }))
  trips f true c = keeps event.Trip f (ap not c) k.levels refl
  trips f false c = stops event.Trip f (ap not c) (with_trip m.drive true) refl k refl refl refl refl refl

  on_event : (e : Result Event Refusal) → event_of n ≡ e → G e (event_after m e)
  on_event (Err why) f =
      good_by Nothing t.rows (ap (event_effect (told m t)) f) refl refl refl (ap (levels_by k.levels) f) refl (quiet m t h) (omega arith) tt tt (λ a b. absurd (both_ways _ a b)) tt
  on_event (Ok (event.Limit way true)) f = limits way f (is_clear k.levels.limits way) refl
  on_event (Ok (event.Limit way false)) f = keeps (event.Limit way false) f refl (with_level k.levels way false) refl
  on_event (Ok (event.EStop true)) f = estops f k.levels.estop refl
  on_event (Ok (event.EStop false)) f = keeps (event.EStop false) f refl (with_estop k.levels false) refl
  on_event (Ok event.Trip) f = trips f m.drive.tripped refl

pub event_good :
    (g : ℕ) (m : AxisMeans) (t : Trace) (n : ℤ) (ws : List ℤ) → Holds m t
    → Good g (told m t) (EventCall n) (Replied (event_answer (event_of n))) ws (event_after m (event_of n))
event_good g m t n ws h = on_event g m t n ws h (event_of n) refl
