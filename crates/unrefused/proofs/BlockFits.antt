-- A block keeps the axis fit.
use Rattle.std.proofs.Common.{◌≡◌, ℕ, ◌*◌, ◌<◌, ◌≤◌, true, false, not, ◌&&◌, [], ◌∷◌, length, ℤ, ◌+ℤ◌, nat_abs, Ok, Err, MatchBool, Result, refl, ap, ◌∙◌, arith}
use Rattle.std.proofs.lemmas.Bool.{and_parts, not-true, or_parts, false≢true}
use Rattle.drive.proofs.Landings.{toward_reaches}
use Rattle.drive.specs.Directions.{signed, toward}
use Rattle.drive.specs.Drives.{DriveMeans}
use Rattle.drive.specs.Positions.{is_position, distance}
use Rattle.profile.specs.Plans.{plan_steps}
use Rattle.profile.specs.Profiles.{ProfileMeans, Begun, Braked}
use Rattle.profile.specs.Rows.{steps_of, top_of}
use Rattle.profile.specs.declared.row.Row.{Row}
use Rattle.block.specs.Commands.{commanded}
use Rattle.block.specs.Frames.{direction_of}
use Rattle.block.specs.Words.{rising}
use Rattle.block.specs.declared.frame.Block.{Block}
use Rattle.block.specs.declared.refusal.Refusal.{Refusal}
use Rattle.table.specs.Courses.{stays_on}
use Rattle.table.specs.TablePlans.{blend_plan}
use Rattle.table.specs.Tables.{TableMeans, closed}
use Rattle.unrefused.proofs.CallFits.{Kept, either, stop_fits, eased_fits}
use Rattle.unrefused.proofs.Motions.{begins, brakes}
use Rattle.axis.proofs.Orders.{Follows, order_follows}
use Rattle.axis.proofs.Readiness.{Sane, within, some_way, judged_ready}
use Rattle.unrefused.proofs.RowFits.{empty_fits, added_fits, closed_fits, tops_slow, row_begins, row_leaves}
use Rattle.axis.specs.Axes.{AxisMeans, with_memory}
use Rattle.axis.specs.Memories.{MemoryMeans, with_table, with_state, with_kept}
use Rattle.axis.specs.Blocks.{closes, kept_by, finished, UsesBy, kept_axis, block_order, block_after, BlockUses}
use Rattle.axis.specs.Carrying.{began, go_travel, held, carried, Uses, Ready}
use Rattle.unrefused.specs.Fits.{InPause, Underway, Fit}
use Rattle.axis.specs.Questions.{programs, runs, inhibited, speed_fits, rates_fit, pace_fits, distance_fits}
use Rattle.axis.specs.Plans.{single_plan, blend_end}
use Rattle.axis.specs.declared.order.DwellRow.{DwellRow}
use Rattle.axis.specs.declared.order.SingleMove.{SingleMove}
use Rattle.axis.specs.declared.order.Order.{Order}
use Rattle.axis.specs.declared.order.Order.TheVariants as order
use Rattle.axis.specs.declared.state.State.{State}
use Rattle.axis.specs.declared.state.State.TheVariants.{Idle, Programming, Running, Pausing, Holding, Held}

-- what the questions of a block say of its order, beyond that it can be carried out
abbrev Asked : ℕ → AxisMeans → Order → Type 0
Asked g m order.Nothing = Unit {0}
Asked g m (order.Go single) = (m.drive.tripped ≡ false) × (single.speed ≤ 1000 * g) × (is_position single.target ≡ true)
Asked g m order.Hold = Unit {0}
Asked g m order.Stop = Unit {0}
Asked g m (order.Preset x) = Unit {0}
Asked g m (order.Reset trip) = Unit {0}
Asked g m order.Program = Unit {0}
Asked g m (order.Segment s) = (programs m.memory.state ≡ true) × (s.speed ≤ 1000 * g)
Asked g m (order.Blend way rates) = (m.drive.tripped ≡ false) × (is_position (blend_end m way) ≡ true)
Asked g m (order.Dwell run) = (m.drive.tripped ≡ false) × (m.memory.table.ready ≡ true) × (stays_on m.drive.place m.memory.table.rows ≡ true)

module _ (g : ℕ) (m : AxisMeans) where
  untripped : not (inhibited m) ≡ true → m.drive.tripped ≡ false
  unfolding inhibited
  untripped e = (or_parts m.memory.levels.estop m.drive.tripped (or_parts m.memory.flags.input _ (not-true _ e)).1).1

  speed : (v : ℤ) → speed_fits g m v ≡ true → nat_abs v ≤ 1000 * g
  unfolding speed_fits
  speed v e = (within m.memory.table.start (1000 * g) v e).1

  segment_is_asked :
      (d v : ℤ) → programs m.memory.state ≡ true → (distance_fits d && speed_fits g m v) ≡ true
      → Asked g m (order.Segment (record { distance = d; speed = nat_abs v }))
  segment_is_asked d v r h = (r, speed v (and_parts (distance_fits d) (speed_fits g m v) h).1)

  are_asked : Follows g m (Asked g m)
  unfolding pace_fits
  are_asked =
      record {
        nothing = tt;
        go = λ n p i w. (untripped i, speed n.speed (and_parts (speed_fits g m n.speed) (rates_fit n.block) p).0, (some_way m.drive.place n.place w).1);
        hold = tt;
        stop = tt;
        preset = λ x h. tt;
        reset = λ trip. tt;
        program = tt;
        segment = λ n a h. segment_is_asked n.place n.speed (and_parts (programs m.memory.state) _ a).0 h;
        blend = λ b p i r w. (untripped i, (some_way m.drive.place (blend_end m (direction_of b)) w).1);
        dwell = λ b p i r w. (untripped i, r, w);
      }

-- nothing moves in Programming
programs_rests : (g : ℕ) (s : State) (d : DriveMeans) (p : ProfileMeans) (t : TableMeans) → programs s ≡ true → Underway g s d p t
programs_rests g Idle d p t e = absurd (false≢true e)
programs_rests g Programming d p t e = tt
programs_rests g (Running travel) d p t e = absurd (false≢true e)
programs_rests g (Pausing next ticks) d p t e = absurd (false≢true e)
programs_rests g (Holding travel) d p t e = absurd (false≢true e)
programs_rests g (Held target) d p t e = absurd (false≢true e)

-- nor does a cleared trip stop what moves
resets : (g : ℕ) (s : State) (d : DriveMeans) (p : ProfileMeans) (t : TableMeans) → Underway g s d p t → Underway g s (record { place = d.place; tripped = false }) p t
resets g Idle d p t u = tt
resets g Programming d p t u = tt
resets g (Running travel) d p t u = (record { untripped = refl; slow = u.0.slow; ends = u.0.ends }, u.1)
resets g (Pausing next ticks) d p t u = record { untripped = refl; within = u.within; later = u.later }
resets g (Holding travel) d p t u = record { untripped = refl; slow = u.slow; ends = u.ends }
resets g (Held target) d p t u = tt

one_row_steps : (r : Row) → steps_of (r ∷ []) ≡ r.steps
unfolding steps_of
one_row_steps r = omega arith

one_row_top : (r : Row) → top_of (r ∷ []) ≡ r.speed
unfolding top_of
one_row_top r = omega arith

module _ (g : ℕ) (m : AxisMeans) (f : Fit g m) (here : is_position m.drive.place ≡ true) where
  go_fits : (single : SingleMove) (p : ProfileMeans) → Asked g m (order.Go single) → Begun m.profile (single_plan m single) p → Fit g (began m (go_travel m single) p)
  go_fits single p a b =
      let n = distance m.drive.place single.target in
      let r : Row = record { steps = n; speed = single.speed } in
      let way = toward m.drive.place single.target in
      let e : m.drive.place +ℤ signed way (plan_steps (single_plan m single)) ≡ single.target =
      ap (λ k. m.drive.place +ℤ signed way k) (one_row_steps r) ∙ toward_reaches m.drive.place single.target in
      record {
        table = f.table;
        underway = (begins g way m.drive (single_plan m single) m.profile p b a.0 (omega (arith, one_row_top r, a.1)) (ap is_position e ∙ a.2), tt);
      }

  held_fits : (s : State) (p : ProfileMeans) → Underway g s m.drive m.profile m.memory.table → MatchBool (runs s) (Braked m.profile p) (p ≡ m.profile) → Fit g (held s m p)
  held_fits Idle p u b = f
  held_fits Programming p u b = f
  held_fits (Running travel) p u b =
      eased_fits g m.drive p m.memory travel f.table (brakes g travel.direction m.drive m.profile p here u.0 b)
  held_fits (Pausing next ticks) p u b = record { table = f.table; underway = tt }
  held_fits (Holding travel) p u b = f
  held_fits (Held target) p u b = f

  carried_fits : (o : Order) (p : ProfileMeans) → Ready m o → Asked g m o → Uses m o p → Fit g (carried m o p)
  carried_fits order.Nothing p r a u = f
  carried_fits (order.Go single) p r a u = go_fits single p a u
  carried_fits order.Hold p r a u = held_fits m.memory.state p f.underway u
  carried_fits order.Stop p r a u = stop_fits g m.drive m.profile m.memory f.table
  carried_fits (order.Preset x) p r a u = record { table = f.table; underway = tt }
  carried_fits (order.Reset true) p r a u = record { table = f.table; underway = resets g m.memory.state m.drive m.profile m.memory.table f.underway }
  carried_fits (order.Reset false) p r a u = record { table = f.table; underway = f.underway }
  carried_fits order.Program p r a u = record { table = empty_fits g m.memory.table.start f.table.starts.0 f.table.starts.1; underway = tt }
  carried_fits (order.Segment s) p r a u =
      record { table = added_fits g m.memory.table s f.table r a.1; underway = programs_rests g m.memory.state _ _ _ a.0 }
  carried_fits (order.Blend way rates) p r a u =
      record {
        table = f.table;
        underway = (begins g way m.drive (blend_plan m.memory.table rates) m.profile p u a.0 (tops_slow (1000 * g) m.memory.table.rows f.table.slow) a.1, tt);
      }
  carried_fits (order.Dwell run) p r a u =
      let row : DwellRow = record { run = run; index = 0 } in
      let l : 0 < length m.memory.table.rows = omega (arith, f.table.enough a.1) in
      let pause : InPause m.drive m.memory.table row =
      record { untripped = a.0; within = l; later = record { rates = record { gains = r.gains; slows = r.slows }; stays = a.2 } } in
      record {
        table = f.table;
        underway = (row_begins g m.drive m.memory.table row f.table pause m.profile p u, row_leaves g m.drive m.memory.table row f.table pause m.profile p u);
      }

  finished_fits : (r : Result Order Refusal) (p : ProfileMeans) → ((o : Order) → r ≡ Ok o → Ready m o × Asked g m o) → UsesBy m r p → Fit g (finished m r p)
  finished_fits (Ok o) p h u = let w = h o refl in carried_fits o p w.0 w.1 u
  finished_fits (Err why) p h u = record { table = f.table; underway = f.underway }

-- the kept word changes nothing of it, and a closed table is idle
kept_fits : (g : ℕ) (m : AxisMeans) (bits : ℕ) → Fit g m → Fit g (with_memory m (kept_by m.memory bits))
kept_fits g m bits f =
    let P : MemoryMeans → Type 0 = λ k. Kept g m.drive m.profile (with_kept k bits) in
    either P (closes m.memory bits) (with_state (with_table m.memory (closed m.memory.table)) Idle) m.memory
    (record { table = closed_fits g m.memory.table f.table; underway = tt })
    (record { table = f.table; underway = f.underway })

-- a fit axis has what the questions of a block take for granted
sane : (g : ℕ) (m : AxisMeans) → g ≤ 200 → is_position m.drive.place ≡ true → Fit g m → Sane g m
sane g m l here f =
    record {
      reach = l;
      placed = here;
      starts = (f.table.starts.0, omega (arith, f.table.starts.1));
      each = f.table.each;
      few = f.table.few;
      enough = f.table.enough;
    }

pub block_fits :
    (g : ℕ) → g ≤ 200 → (m : AxisMeans) (b : Result Block Refusal) (p : ProfileMeans) → is_position m.drive.place ≡ true → Fit g m
    → BlockUses g m b p → Fit g (block_after g m b p)
block_fits g l m (Ok b) p here f u =
    let k = kept_axis m b in
    let fit = kept_fits g m b.bits f in
    let s = sane g k l here fit in
    finished_fits g k fit here (block_order g m b) p
    (λ o e. (
      judged_ready g k s (rising m.memory.kept b.bits) b o e,
      order_follows g k (Asked g k) (are_asked g k) b (commanded (rising m.memory.kept b.bits)) o e,
    )) u
block_fits g l m (Err why) p here f u = f
