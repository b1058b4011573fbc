-- Blocks.
use Rattle.std.proofs.Common.{◌≡◌, ℕ, ◌<◌, ◌≤◌, Bool, true, false, cond, not, ◌||◌, eqb, ltb, List, [], ◌∷◌, ◌++◌, map, length, ℤ, pos, ◌+ℤ◌, nat_abs, is_some, Some, None, Ok, Err, Option, Result, MatchBool, refl, sym, ap, ◌∙◌, subst, arith}
use Rattle.std.proofs.lemmas.Bool.{both_ways, or_right, or_left, false≢true, cond_both, and_parts, eqb-true, eqb-false, ltb-false}
use Rattle.drive.specs.Directions.{signed, toward}
use Rattle.drive.specs.Drives.{landed, setting}
use Rattle.drive.specs.Positions.{is_position, distance}
use Rattle.drive.specs.declared.fault.DriveFault.TheVariants as fault
use Rattle.profile.specs.Plans.{PlanMeans, plan_steps}
use Rattle.profile.specs.Profiles.{ProfileMeans, Sound, Begun, Braked, brake_ticks}
use Rattle.profile.specs.Rows.{steps_of}
use Rattle.block.specs.Commands.{commanded}
use Rattle.block.specs.Frames.{block_of, is_dwell_of, direction_of, clears_trip_of}
use Rattle.block.specs.Words.{rising}
use Rattle.block.specs.declared.command.Command.{Command}
use Rattle.block.specs.declared.command.Command.TheVariants as command
use Rattle.block.specs.declared.frame.Block.{Block}
use Rattle.block.specs.declared.refusal.Refusal.{Refusal}
use Rattle.table.specs.Segments.{row_of, way_of}
use Rattle.table.specs.TablePlans.{row_at, blend_plan, row_plan}
use Rattle.table.specs.Tables.{TableMeans, closed, added}
use Rattle.table.specs.declared.segment.Segment.{Segment}
use Rattle.axis.proofs.Orders.{Accepted, accepted}
use Rattle.axis.specs.Axes.{AxisMeans, with_memory}
use Rattle.axis.specs.Blocks.{closes, is_limit, marked, answered, finished, UsesBy, kept_axis, block_answer, block_after, BlockUses}
use Rattle.axis.specs.Carrying.{began, go_travel, row_travel, held, preset, reset, programmed, carried, Uses}
use Rattle.axis.specs.Questions.{rests, runs, programs, held_target, numbers_in, to_place, rates_of, run_of, single_of, first_no, questions, order_for, order_by}
use Rattle.axis.specs.Memories.{MemoryMeans, with_state, with_table, with_kept, with_flags, with_command, with_input}
use Rattle.axis.specs.Plans.{single_plan}
use Rattle.axis.specs.Stops.{stopped, completed, rested, eased}
use Rattle.axis.specs.declared.order.Order.{Order}
use Rattle.axis.specs.declared.order.Order.TheVariants as order
use Rattle.axis.specs.declared.state.Kind.{Kind}
use Rattle.axis.specs.declared.state.Kind.TheVariants.{Single, Blend, Dwell}
use Rattle.axis.specs.declared.state.State.{State}
use Rattle.axis.specs.declared.state.State.TheVariants.{Idle, Programming, Running, Pausing, Holding, Held}
use Rattle.axis.specs.declared.state.Travel.{Travel}
use Rattle.unrefused.specs.Fits.{Fit}
use Rattle.law.proofs.Changes.{stands_still, good_by, stopped_rows, stopped_start, stopped_rests}
use Rattle.law.proofs.Easings.{no_distance}
use Rattle.law.proofs.Facts.{plain, Trace, told, unmoved, rests_still, moves_still, legs_from, legs_end, AtRest, Aims, OnLeg, IsResting, IsRunning, Moving, Programmed, Holds}
use Rattle.law.proofs.Goods.{Good}
use Rattle.law.proofs.Legs.{legs_next}
use Rattle.law.proofs.Moves.{older, move_good, rows_end, single_ends}
use Rattle.law.specs.Accounts.{Account, Moves, Holds as HoldsEffect, Stops, Presets, Nothing, ordered_by, ordered_in, kept_in, number_in, speed_in, segment_in, rows_by, rows_after, plan_by, single, blend, dwell, row_leg, sum_of, command_effect, block_effect}
use Rattle.law.specs.Calls.{Call, Block as BlockCall, Replied}
use Rattle.law.specs.Journeys.{Leg, Journey, none, held as held_on, braked}
use Rattle.law.specs.Law.{Still, Travelling}
use Rattle.law.proofs.Ticks.{over_is}

-- at rest
pub resting : (s : State) (t : Trace) (tb : TableMeans) (place : ℤ) (p : ProfileMeans) → rests s ≡ true → Moving s t tb place p → IsResting t place p
resting Idle t tb place p e h = h
resting Programming t tb place p e h = absurd (false≢true e)
resting (Running travel) t tb place p e h = absurd (false≢true e)
resting (Pausing next ticks) t tb place p e h = absurd (false≢true e)
resting (Holding travel) t tb place p e h = absurd (false≢true e)
resting (Held target) t tb place p e h = h.0

-- in Programming
programming : (s : State) (t : Trace) (tb : TableMeans) (place : ℤ) (p : ProfileMeans) → programs s ≡ true → Moving s t tb place p → IsResting t place p
programming Idle t tb place p e h = absurd (false≢true e)
programming Programming t tb place p e h = h
programming (Running travel) t tb place p e h = absurd (false≢true e)
programming (Pausing next ticks) t tb place p e h = absurd (false≢true e)
programming (Holding travel) t tb place p e h = absurd (false≢true e)
programming (Held target) t tb place p e h = absurd (false≢true e)

programming_too : (s : State) (t : Trace) (tb : TableMeans) (place : ℤ) (p : ProfileMeans) → programs s ≡ true → IsResting t place p → Moving s t tb place p
programming_too Idle t tb place p e h = absurd (false≢true e)
programming_too Programming t tb place p e h = h
programming_too (Running travel) t tb place p e h = absurd (false≢true e)
programming_too (Pausing next ticks) t tb place p e h = absurd (false≢true e)
programming_too (Holding travel) t tb place p e h = absurd (false≢true e)
programming_too (Held target) t tb place p e h = absurd (false≢true e)

-- what rests does, whatever the rows
abbrev with_rows : Trace → Bool → List Segment → Trace
with_rows t b rows = record { rows = rows; target = t.target; journey = t.journey; underway = cond b None t.underway; resting = t.resting }

rests_with : (rows : List Segment) (b : Bool) (t : Trace) (place : ℤ) (p : ProfileMeans) → IsResting t place p → IsResting (with_rows t b rows) place p
rests_with rows b t place p h = let r = rests_still b t place p h in record { journey = r.journey; over = r.over; slows = r.slows }

held_rests : (s : State) (t : Trace) (tb : TableMeans) (place : ℤ) (p : ProfileMeans) (target : ℤ) → held_target s ≡ Some target → Moving s t tb place p → IsResting t place p
held_rests Idle t tb place p target e h = let z : ◌≡◌ {A = Option ℤ} None (Some target) = e in cc
held_rests Programming t tb place p target e h = let z : ◌≡◌ {A = Option ℤ} None (Some target) = e in cc
held_rests (Running travel) t tb place p target e h = let z : ◌≡◌ {A = Option ℤ} None (Some target) = e in cc
held_rests (Pausing next ticks) t tb place p target e h = let z : ◌≡◌ {A = Option ℤ} None (Some target) = e in cc
held_rests (Holding travel) t tb place p target e h = let z : ◌≡◌ {A = Option ℤ} None (Some target) = e in cc
held_rests (Held x) t tb place p target e h = h.0

-- a held move's target is where it was sent
held_there : (s : State) (t : Trace) (tb : TableMeans) (place : ℤ) (p : ProfileMeans) (target : ℤ) → held_target s ≡ Some target → Moving s t tb place p → target ≡ t.target
held_there Idle t tb place p target e h = let z : ◌≡◌ {A = Option ℤ} None (Some target) = e in cc
held_there Programming t tb place p target e h = let z : ◌≡◌ {A = Option ℤ} None (Some target) = e in cc
held_there (Running travel) t tb place p target e h = let z : ◌≡◌ {A = Option ℤ} None (Some target) = e in cc
held_there (Pausing next ticks) t tb place p target e h = let z : ◌≡◌ {A = Option ℤ} None (Some target) = e in cc
held_there (Holding travel) t tb place p target e h = let z : ◌≡◌ {A = Option ℤ} None (Some target) = e in cc
held_there (Held x) t tb place p target e h = let z : x ≡ target = some_same x target e in sym z ∙ h.1
  where
    some_same : (a b : ℤ) → ◌≡◌ {A = Option ℤ} (Some a) (Some b) → a ≡ b
    some_same a b q = cc

-- a block of an axis k whose word has been kept, after another
module _ (g : ℕ) (k : AxisMeans) (t : Trace) (w : ℕ) (words : List ℤ) (b : Block) (is : block_of words ≡ Ok b) (kept_is : b.bits ≡ k.memory.kept) (h : Holds k t) (enough : k.memory.table.ready ≡ true → 0 < length k.memory.table.rows) (p : ProfileMeans) (s : Sound p) (ws : List ℤ) where
  abbrev a : Account
  a = older k t w

  abbrev c : Call
  c = BlockCall words

  abbrev G : Result (Unit {0}) Refusal → AxisMeans → Type 0
  G r m' = Good g a c (Replied r) ws m'

  -- at rest nothing moves, and no move is under way
  at_rest : rests k.memory.state ≡ true → IsResting t k.drive.place k.profile
  at_rest e = resting k.memory.state t k.memory.table k.drive.place k.profile e h.moving

  stood : IsResting t k.drive.place k.profile → (t.underway ≡ None) × Still t.journey (plain k)
  stood r = (r.over, stands_still t.journey (plain k) r.journey)

  keeps : kept_in w (block_of words) ≡ k.memory.kept
  keeps = ap (kept_in w) is ∙ kept_is

  still : (x : AxisMeans) → x.drive.place ≡ k.drive.place → x.profile ≡ k.profile → x.memory.state ≡ k.memory.state → x.memory.table ≡ k.memory.table → Holds x (unmoved t x.memory.flags.complete)
  still x d q st tb =
      record {
        rows = λ r. h.rows (sym (ap (λ z. programs z || x.memory.table.ready) st ∙ ap (λ (z : TableMeans). programs k.memory.state || z.ready) tb) ∙ r) ∙ ap (λ (z : TableMeans). z.rows) (sym tb);
        moving =
            subst (λ z. Moving z (unmoved t x.memory.flags.complete) x.memory.table x.drive.place x.profile) (sym st)
            (subst (λ z. Moving k.memory.state (unmoved t x.memory.flags.complete) z x.drive.place x.profile) (sym tb)
            (subst (λ z. Moving k.memory.state (unmoved t x.memory.flags.complete) k.memory.table z x.profile) (sym d)
            (subst (λ z. Moving k.memory.state (unmoved t x.memory.flags.complete) k.memory.table k.drive.place z) (sym q)
            (moves_still k.memory.state x.memory.flags.complete t k.memory.table k.drive.place k.profile h.moving))));
      }

  -- a refusal
  refuses : (why : Refusal) → G (Err why) (with_memory k (marked k.memory why))
  refuses why = on (is_limit why)
    where
      on : (l : Bool) → G (Err why) (with_memory k (with_flags k.memory (cond l (with_input (with_command k.memory.flags true) true) (with_command k.memory.flags true))))
      on true = good_by Nothing t.rows refl refl refl keeps refl refl (still _ refl refl refl refl) (omega arith) tt tt (λ x y. absurd (both_ways _ x y)) tt
      on false = good_by Nothing t.rows refl refl refl keeps refl refl (still _ refl refl refl refl) (omega arith) tt tt (λ x y. absurd (both_ways _ x y)) tt

  refuses_with : (why : Refusal) → p ≡ k.profile → G (Err why) (with_memory k (marked k.memory why))
  refuses_with why u = refuses why

  -- no bit rises
  orders_nothing : ordered_in w (Ok b) ≡ None → G (Ok tt) k
  orders_nothing e =
      good_by Nothing t.rows (ap (block_effect a) (ap (ordered_in w) is ∙ e)) (ap (rows_after t.rows) (ap (ordered_in w) is ∙ e)) refl keeps refl refl
      (still k refl refl refl refl) (omega arith) tt tt (λ x y. absurd (both_ways _ x y)) tt

  orders_with : ordered_in w (Ok b) ≡ None → p ≡ k.profile → G (Ok tt) k
  orders_with e u = orders_nothing e

  -- a command
  module _ (co : Command) (cm : ordered_in w (Ok b) ≡ Some (record { command = co; block = b })) where
    effect_is : block_effect a (ordered_in w (block_of words)) ≡ command_effect a co b
    effect_is = ap (block_effect a) (ap (ordered_in w) is ∙ cm)

    rows_are : rows_after t.rows (ordered_in w (block_of words)) ≡ rows_by t.rows co b
    rows_are = ap (rows_after t.rows) (ap (ordered_in w) is ∙ cm)

    -- a single move
    goes : IsResting t k.drive.place k.profile → (to : ℤ) → command_effect a co b ≡ single a b to → rows_by t.rows co b ≡ t.rows → Begun k.profile (single_plan k (single_of (to_place (numbers_in b) to))) p → G (Ok tt) (began k (go_travel k (single_of (to_place (numbers_in b) to))) p)
    goes r to ef ro begun =
        let plan : PlanMeans = plan_by k.memory.table.start b (record { steps = distance k.drive.place to; speed = speed_in b } ∷ []) in
        let leg : Leg = record { way = toward k.drive.place to; plan = plan } in
        move_good g k t w c ws to leg [] (leg ∷ []) 0 (Single to) p h refl refl refl refl
        (single_ends k.drive.place to plan (speed_in b) refl) begun s (effect_is ∙ ef) (rows_are ∙ ro) keeps refl refl (stood r) tt

    stops : command_effect a co b ≡ Stops → rows_by t.rows co b ≡ t.rows → G (Ok tt) (with_memory k (stopped k.memory))
    stops ef ro =
        good_by Stops t.rows (effect_is ∙ ef) (rows_are ∙ ro) refl keeps refl (stopped_start k.memory.state k.memory.table)
        (record { rows = stopped_rows k.memory.state k.memory.table t.rows h.rows; moving = stopped_rests t k.drive.place k.profile (plain (with_memory k (stopped k.memory))) (pos 0) a t.rows })
        (omega arith) tt tt (λ x y. absurd (both_ways _ x y)) tt

    presets : (x : ℤ) → command_effect a co b ≡ Presets x → rows_by t.rows co b ≡ t.rows → is_position x ≡ true → rests k.memory.state ≡ true → G (Ok tt) (preset k x)
    presets x ef ro near st =
        let there : x ≡ (landed k.drive (setting x)).place = sym (ap (λ q. (landed k.drive (cond q (Ok x) (Err fault.NoPosition))).place) near) in
        let r = resting k.memory.state t k.memory.table k.drive.place k.profile st h.moving in
        good_by (Presets x) t.rows (effect_is ∙ ef) (rows_are ∙ ro) there keeps refl refl
        (record { rows = λ q. h.rows (or_right _ _ q); moving = record { journey = tt; over = r.over; slows = r.slows } })
        (omega arith) tt tt (λ y z. absurd (false≢true z)) (stood r)

    resets : (trip : Bool) → command_effect a co b ≡ Nothing → rows_by t.rows co b ≡ t.rows → G (Ok tt) (reset k trip)
    resets true ef ro = good_by Nothing t.rows (effect_is ∙ ef) (rows_are ∙ ro) refl keeps refl refl (still (reset k true) refl refl refl refl) (omega arith) tt tt (λ y z. absurd (false≢true z)) tt
    resets false ef ro = good_by Nothing t.rows (effect_is ∙ ef) (rows_are ∙ ro) refl keeps refl refl (still (reset k false) refl refl refl refl) (omega arith) tt tt (λ y z. absurd (false≢true z)) tt

    begins : command_effect a co b ≡ Nothing → rows_by t.rows co b ≡ [] → rests k.memory.state ≡ true → G (Ok tt) (with_memory k (programmed k.memory))
    begins ef ro st =
        good_by Nothing [] (effect_is ∙ ef) (rows_are ∙ ro) refl keeps refl refl
        (record { rows = λ q. refl; moving = rests_with [] k.memory.flags.complete t k.drive.place k.profile (resting k.memory.state t k.memory.table k.drive.place k.profile st h.moving) })
        (omega arith) tt tt (λ x y. absurd (both_ways _ x y)) tt

    adds : (x : Segment) → command_effect a co b ≡ Nothing → rows_by t.rows co b ≡ t.rows ++ x ∷ [] → programs k.memory.state ≡ true → G (Ok tt) (with_memory k (with_table k.memory (added k.memory.table x)))
    adds x ef ro st =
        good_by Nothing (t.rows ++ x ∷ []) (effect_is ∙ ef) (rows_are ∙ ro) refl keeps refl refl
        (record {
          rows = λ q. ap (λ z. z ++ x ∷ []) (h.rows (or_left _ _ st));
          moving = programming_too k.memory.state (with_rows t k.memory.flags.complete (t.rows ++ x ∷ [])) (added k.memory.table x) k.drive.place k.profile st (rests_with (t.rows ++ x ∷ []) k.memory.flags.complete t k.drive.place k.profile (programming k.memory.state t k.memory.table k.drive.place k.profile st h.moving));
        })
        (omega arith) tt tt (λ x y. absurd (both_ways _ x y)) tt

    -- a hold
    module _ (ef : command_effect a co b ≡ HoldsEffect) (ro : rows_by t.rows co b ≡ t.rows) where
      abbrev P : MemoryMeans → Type 0
      P x = G (Ok tt) (record { drive = k.drive; profile = p; memory = x })

      -- a hold of a journey that then is at rest
      held_resting : (j : Journey) → braked t.journey ≡ j → AtRest j k.drive.place p → (c : Bool) → IsResting (record { rows = t.rows; target = t.target; journey = braked t.journey; underway = None; resting = Some (record { allowed = brake_ticks p; sent = 0 }) }) k.drive.place p
      held_resting j e r c = record { journey = subst (λ z. AtRest z k.drive.place p) (sym e) r; over = refl; slows = omega arith }

      module _ (travel : Travel) (r : IsRunning t k.memory.table k.drive.place k.profile travel.direction travel.kind) (br : Braked k.profile p) where
        same_plan : p.plan ≡ k.profile.plan
        same_plan = ap (λ (y : ProfileMeans). y.plan) br.after

        same_gone : p.gone ≡ k.profile.gone
        same_gone = ap (λ (y : ProfileMeans). y.gone) br.after

        on_it : OnLeg r.from r.leg travel.direction k.drive.place p
        on_it = record { way_is = r.leg_is.way_is; plan_is = same_plan ∙ r.leg_is.plan_is; keeps_up = rw same_gone r.leg_is.keeps_up }

        now : braked t.journey ≡ held_on r.from r.leg
        now = ap braked r.journey

        soon : p.left ≤ brake_ticks p
        soon = (let e : brake_ticks p ≡ brake_ticks k.profile = ap (λ (y : ProfileMeans). brake_ticks y) br.after in omega (arith, e, br.soon))

        rest : (x : MemoryMeans) → k.memory.kept ≡ x.kept → k.memory.levels ≡ x.levels → k.memory.table ≡ x.table
            → Programmed t (record { drive = k.drive; profile = p; memory = x })
            → Moving x.state (record { rows = t.rows; target = t.target; journey = braked t.journey; underway = None; resting = Some (record { allowed = brake_ticks p; sent = 0 }) }) x.table k.drive.place p
            → (k.memory.flags.complete ≡ false → x.flags.complete ≡ true → (k.drive.place ≡ t.target) × Still (braked t.journey) (plain (record { drive = k.drive; profile = p; memory = x }))) → P x
        rest x ke le tb rows moving arrives =
            good_by HoldsEffect t.rows (effect_is ∙ ef) (rows_are ∙ ro) refl (keeps ∙ ke) le (ap (λ (z : TableMeans). z.start) tb)
            (record { rows = rows; moving = moving }) (omega arith) tt tt arrives (subst Travelling (sym r.journey) tt)

        quiet : eqb p.left 0 ≡ true → IsResting (record { rows = t.rows; target = t.target; journey = braked t.journey; underway = None; resting = Some (record { allowed = brake_ticks p; sent = 0 }) }) k.drive.place p
        quiet z = held_resting (held_on r.from r.leg) now (on_it.plan_is, on_it.keeps_up, over_is p s ∙ z) true

        ready : {b : Bool} → (b || k.memory.table.ready) ≡ true → b ≡ false → t.rows ≡ k.memory.table.rows
        ready {b} e f = h.rows (or_right _ _ (sym (ap (λ z. z || k.memory.table.ready) f) ∙ e))

        rests_by : eqb p.left 0 ≡ true → (kind : Kind) → Aims kind t.target → P (rested k.memory k.drive.place kind)
        rests_by z (Single target) aims =
            cond_both (eqb (distance k.drive.place target) 0) _ _ P
            (λ e. rest (completed k.memory) refl refl refl (λ q. ready q refl) (quiet z)
            (λ x y. (sym (no_distance k.drive.place target (eqb-true _ _ e)) ∙ aims, subst (λ j. Still j (plain (record { drive = k.drive; profile = p; memory = completed k.memory }))) (sym now) (over_is p s ∙ z))))
            (λ e. rest (with_state k.memory (Held target)) refl refl refl (λ q. ready q refl) (quiet z, aims) (λ x y. absurd (both_ways _ x y)))
        rests_by z Blend aims = rest (with_state k.memory Idle) refl refl refl (λ q. ready q refl) (quiet z) (λ x y. absurd (both_ways _ x y))
        rests_by z (Dwell row) aims = rest (with_state k.memory Idle) refl refl refl (λ q. ready q refl) (quiet z) (λ x y. absurd (both_ways _ x y))

        eases : P (eased k.memory (eqb p.left 0) k.drive.place travel)
        eases =
            cond_both (eqb p.left 0) _ _ P
            (λ e. rests_by e travel.kind r.aims)
            (λ e.
            let z = eqb-false _ _ e in
            rest (with_state k.memory (Holding travel)) refl refl refl (λ q. ready q refl)
            (record { from = r.from; leg = r.leg; journey = now; leg_is = on_it; busy = omega arith; aims = r.aims; over = refl; slows = omega (arith, soon) })
            (λ x y. absurd (both_ways _ x y)))

      holds_in : (st : State) → k.memory.state ≡ st → Moving st t k.memory.table k.drive.place k.profile → runs st ≡ true → MatchBool (runs st) (Braked k.profile p) (p ≡ k.profile)
          → G (Ok tt) (held st k p)
      holds_in Idle e mo q u = absurd (false≢true q)
      holds_in Programming e mo q u = absurd (false≢true q)
      holds_in (Running travel) e mo q u = eases travel mo u
      holds_in (Pausing next ticks) e mo q u =
          good_by HoldsEffect t.rows (effect_is ∙ ef) (rows_are ∙ ro) refl keeps refl refl
          (record { rows = λ z. h.rows (or_right _ _ z); moving = held_resting none (ap braked mo.journey) tt true })
          (omega arith) tt tt (λ x y. absurd (both_ways _ x y)) (subst Travelling (sym mo.journey) tt)
      holds_in (Holding travel) e mo q u = absurd (false≢true q)
      holds_in (Held target) e mo q u = absurd (false≢true q)

    -- a run of the table, whose rows are those of the latest programming
    module _ (ro : rows_by t.rows co b ≡ t.rows) (tb_is : t.rows ≡ k.memory.table.rows) where
      blends : IsResting t k.drive.place k.profile → command_effect a co b ≡ blend a b → Begun k.profile (blend_plan k.memory.table (rates_of b)) p
          → G (Ok tt) (began k (record { direction = direction_of b; kind = Blend }) p)
      blends r ef begun =
          let leg : Leg = record { way = direction_of b; plan = blend_plan k.memory.table (rates_of b) } in
          let to : ℤ = k.drive.place +ℤ signed (direction_of b) (plan_steps leg.plan) in
          let same : blend a b ≡ Moves to (record { legs = leg ∷ []; pause = 0 }) =
          ap (λ rs. Moves (k.drive.place +ℤ signed (direction_of b) (steps_of (map row_of rs))) (record { legs = record { way = direction_of b; plan = plan_by k.memory.table.start b (map row_of rs) } ∷ []; pause = 0 })) tb_is in
          move_good g k t w c ws to leg [] (leg ∷ []) 0 Blend p h refl refl refl tt refl begun s (effect_is ∙ (ef ∙ same)) (rows_are ∙ ro) keeps refl refl (stood r) tt

      dwells : IsResting t k.drive.place k.profile → command_effect a co b ≡ dwell a b → 0 < length k.memory.table.rows → Begun k.profile (row_plan k.memory.table (rates_of b) 0) p
          → G (Ok tt) (began k (row_travel k.memory.table (record { run = run_of b; index = 0 })) p)
      dwells r ef some begun =
          let tb = k.memory.table in
          let legs : List Leg = map (row_leg tb.start b) tb.rows in
          let leg : Leg = record { way = way_of (row_at tb 0); plan = row_plan tb (rates_of b) 0 } in
          let ls = legs_from tb (run_of b) 1 in
          let to : ℤ = k.drive.place +ℤ sum_of tb.rows in
          let is_legs : legs ≡ leg ∷ ls = legs_next tb (run_of b) 0 some in
          let same : dwell a b ≡ Moves to (record { legs = legs; pause = nat_abs b.dwell }) =
          ap (λ rs. Moves (k.drive.place +ℤ sum_of rs) (record { legs = map (row_leg tb.start b) rs; pause = nat_abs b.dwell })) tb_is in
          let ends = ap (legs_end k.drive.place) (sym is_legs) ∙ rows_end tb.start b k.drive.place tb.rows in
          move_good g k t w c ws to leg ls legs (nat_abs b.dwell) (Dwell (record { run = run_of b; index = 0 })) p h is_legs refl refl tt ends begun s
          (effect_is ∙ (ef ∙ same)) (rows_are ∙ ro) keeps refl refl (stood r) tt

  -- a Resume to the target that is held
  resumes : (x : Option ℤ) → ordered_in w (Ok b) ≡ Some (record { command = command.Resume; block = b }) → held_target k.memory.state ≡ x → is_some x ≡ true
      → Uses k (elim x [ None ↦ order.Nothing | Some target ↦ order.Go (single_of (to_place (numbers_in b) target)) ]) p
      → G (Ok tt) (carried k (elim x [ None ↦ order.Nothing | Some target ↦ order.Go (single_of (to_place (numbers_in b) target)) ]) p)
  resumes None cm f al u = absurd (false≢true al)
  resumes (Some target) cm f al u =
      let there : target ≡ t.target = held_there k.memory.state t k.memory.table k.drive.place k.profile target f h.moving in
      goes command.Resume cm (held_rests k.memory.state t k.memory.table k.drive.place k.profile target f h.moving) target (ap (λ x. single a b x) (sym there)) refl u

  -- a Run of the table, whose rows are those of the latest programming
  runs_rows : (x : Bool) → ordered_in w (Ok b) ≡ Some (record { command = command.Run; block = b }) → is_dwell_of b ≡ x → k.memory.table.ready ≡ true → rests k.memory.state ≡ true
      → Uses k (cond x (order.Dwell (run_of b)) (order.Blend (direction_of b) (rates_of b))) p
      → G (Ok tt) (carried k (cond x (order.Dwell (run_of b)) (order.Blend (direction_of b) (rates_of b))) p)
  runs_rows true cm f ready st u =
      dwells command.Run cm refl (h.rows (or_right _ _ ready)) (at_rest st) (ap (λ z. cond z (dwell a b) (blend a b)) f) (enough ready) u
  runs_rows false cm f ready st u =
      blends command.Run cm refl (h.rows (or_right _ _ ready)) (at_rest st) (ap (λ z. cond z (dwell a b) (blend a b)) f) u

  -- the order of a command that is accepted
  carries : (co : Command) → ordered_in w (Ok b) ≡ Some (record { command = co; block = b }) → (o : Order) → Accepted g k b co o → Uses k (order_for k b co) p → G (Ok tt) (carried k (order_for k b co) p)
  carries command.Absolute cm o q u = goes command.Absolute cm (at_rest (and_parts (rests k.memory.state) _ q.state).0) (number_in b) refl refl u
  carries command.Relative cm o q u = goes command.Relative cm (at_rest (and_parts (rests k.memory.state) _ q.state).0) (k.drive.place +ℤ number_in b) refl refl u
  carries command.Hold cm o q u = holds_in command.Hold cm refl refl k.memory.state refl h.moving q.state u
  carries command.Resume cm o q u = resumes (held_target k.memory.state) cm refl q.state u
  carries command.Stop cm o q u = stops command.Stop cm refl refl
  carries command.Preset cm o q u = presets command.Preset cm (number_in b) refl refl q.fits (and_parts (rests k.memory.state) _ q.state).0
  carries command.Reset cm o q u = resets command.Reset cm (clears_trip_of b) refl refl
  carries command.Program cm o q u = begins command.Program cm refl refl (and_parts (rests k.memory.state) _ q.state).0
  carries command.Segment cm o q u = adds command.Segment cm (segment_in b) refl refl (and_parts (programs k.memory.state) _ q.state).0
  carries command.Run cm o q u =
      let st = and_parts (rests k.memory.state) _ q.state in
      runs_rows (is_dwell_of b) cm refl (and_parts (not k.memory.flags.configuration) k.memory.table.ready st.1).1 st.0 u

  abbrev Told : Result Order Refusal → Type 0
  Told r = UsesBy k r p → G (answered r) (finished k r p)

  of_questions : (co : Command) → ordered_in w (Ok b) ≡ Some (record { command = co; block = b }) → (r : Result Order Refusal) → first_no (questions g k b co) (order_for k b co) ≡ r → Told r
  of_questions co cm (Ok o) e u =
      let q = accepted g k b co o e in
      subst (λ x. Uses k x p → G (Ok tt) (carried k x p)) (sym q.is) (carries co cm o q) u
  of_questions co cm (Err why) e u = refuses_with why u

  of_command : (r : Result (Option Command) Refusal) → commanded (rising w b.bits) ≡ r → Told (order_by g k b r)
  of_command (Err why) e u = refuses_with why u
  of_command (Ok None) e u = orders_with (ap (ordered_by b) e) u
  of_command (Ok (Some co)) e u = of_questions co (ap (ordered_by b) e) (first_no (questions g k b co) (order_for k b co)) refl u

  pub kept_good : Told (order_by g k b (commanded (rising w b.bits)))
  kept_good = of_command (commanded (rising w b.bits)) refl

-- what keeping a word leaves
record Kept (m : AxisMeans) (t : Trace) (bits : ℕ) (k : AxisMeans) : Type 0 where
  told_is : told m t ≡ older k t m.memory.kept
  kept_is : bits ≡ k.memory.kept
  holds : Holds k t
  some : k.memory.table.ready ≡ true → 0 < length k.memory.table.rows

module _ (g : ℕ) (m : AxisMeans) (t : Trace) (h : Holds m t) (f : Fit g m) (bits : ℕ) where
  abbrev with_kept_memory : MemoryMeans → AxisMeans
  with_kept_memory x = with_memory m (with_kept x bits)

  keeps_word : (c : Bool) → closes m.memory bits ≡ c → Kept m t bits (with_kept_memory (cond c (with_state (with_table m.memory (closed m.memory.table)) Idle) m.memory))
  keeps_word false e =
      record { told_is = refl; kept_is = refl; holds = record { rows = h.rows; moving = h.moving }; some = λ r. omega (arith, f.table.enough r) }
  keeps_word true e =
      let pr = (and_parts (programs m.memory.state) _ e).0 in
      let r = programming m.memory.state t m.memory.table m.drive.place m.profile pr h.moving in
      cond_both (ltb (length m.memory.table.rows) 2) _ _ (λ tb. Kept m t bits (with_kept_memory (with_state (with_table m.memory tb) Idle)))
      (λ l. record { told_is = refl; kept_is = refl; holds = record { rows = λ q. absurd (false≢true q); moving = r }; some = λ q. absurd (false≢true q) })
      (λ l. record { told_is = refl; kept_is = refl; holds = record { rows = λ q. h.rows (or_left _ _ pr); moving = r }; some = λ q. omega (arith, ltb-false _ _ l) })

pub block_good :
    (g : ℕ) (m : AxisMeans) (t : Trace) (words : List ℤ) (p : ProfileMeans) (ws : List ℤ) → Holds m t → Fit g m → Sound p → BlockUses g m (block_of words) p
    → Good g (told m t) (BlockCall words) (Replied (block_answer g m (block_of words))) ws (block_after g m (block_of words) p)
block_good g m t words p ws h f s u = on (block_of words) refl u
  where
    on : (r : Result Block Refusal) → block_of words ≡ r → BlockUses g m r p → Good g (told m t) (BlockCall words) (Replied (block_answer g m r)) ws (block_after g m r p)
    on (Err why) e v =
        good_by Nothing t.rows refl refl refl (ap (kept_in m.memory.kept) e) refl refl
        (record { rows = h.rows; moving = moves_still m.memory.state m.memory.flags.complete t m.memory.table m.drive.place m.profile h.moving })
        (omega arith) tt tt (λ x y. absurd (both_ways _ x y)) tt
    on (Ok b) e v =
        let k = keeps_word g m t h f b.bits (closes m.memory b.bits) refl in
        subst (λ a. Good g a (BlockCall words) (Replied (block_answer g m (Ok b))) ws (block_after g m (Ok b) p)) (sym k.told_is)
        (kept_good g (kept_axis m b) t m.memory.kept words b e k.kept_is k.holds k.some p s ws v)
