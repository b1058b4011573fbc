-- What a call does besides ticks: by what it does to the motion.
use Rattle.std.proofs.Common.{◌≡◌, ℕ, ◌≤◌, true, ◌||◌, List, ℤ, nat_abs, refl, sym, ap, ◌∙◌, subst, arith}
use Rattle.std.proofs.lemmas.Bool.{false≢true}
use Rattle.profile.specs.Profiles.{ProfileMeans, up_div, fastest}
use Rattle.table.specs.Tables.{TableMeans}
use Rattle.table.specs.declared.segment.Segment.{Segment}
use Rattle.axis.specs.Axes.{AxisMeans}
use Rattle.axis.specs.Questions.{programs}
use Rattle.axis.specs.Stops.{table_stopped}
use Rattle.axis.specs.declared.state.State.{State}
use Rattle.axis.specs.declared.state.State.TheVariants.{Idle, Programming, Running, Pausing, Holding, Held}
use Rattle.law.proofs.Facts.{AtRest, plain, Trace, IsResting, Holds}
use Rattle.law.proofs.Goods.{Good}
use Rattle.law.specs.Accounts.{Account, Effect, Stops, ordered, kept_after, levels_after, start_after, rows_after, effect_of, counted_by, target_by, journey_by, underway_by, resting_by}
use Rattle.law.specs.Calls.{Call, Answer, accepted, steps_in}
use Rattle.law.specs.Journeys.{Journey, none, on, pausing, held}
use Rattle.law.specs.Law.{CallLaw, Clears, Arrives, Still, Stands}
use Rattle.law.specs.Moments.{View}

-- what is told besides, after an effect
abbrev pub trace_by : Account → Effect → List Segment → ℤ → View → Trace
trace_by a e rows n v =
    record {
      rows = rows;
      target = target_by a.target e;
      journey = journey_by a.view.position a.journey e v;
      underway = underway_by a.underway e v;
      resting = resting_by a.resting e n v;
    }

pub good_by :
    {g : ℕ} {a : Account} {c : Call} {r : Answer} {ws : List ℤ} {m' : AxisMeans} (e : Effect) (rows : List Segment)
    → effect_of a c r ≡ e → rows_after a.rows (ordered a.kept c (accepted r)) ≡ rows
    → counted_by a.counted e (steps_in r) ≡ m'.drive.place → kept_after a.kept c ≡ m'.memory.kept → levels_after a.levels c ≡ m'.memory.levels
    → start_after a.start c (accepted r) ≡ m'.memory.table.start → Holds m' (trace_by a e rows (steps_in r) (plain m'))
    → nat_abs (steps_in r) ≤ up_div (fastest m'.profile.plan) 1000 → CallLaw g a c r ws (plain m') → Clears e (plain m')
    → Arrives a (journey_by a.view.position a.journey e (plain m')) (plain m') → Stands a e
    → Good g a c r ws m'
good_by {g} {a} {c} {r} {ws} {m'} e rows ef ro ct ke le st ho sl ca cl ar sd =
    record {
      counted = ap (λ x. counted_by a.counted x (steps_in r)) ef ∙ ct;
      kept = ke;
      levels = le;
      start = st;
      holds = subst (λ x. Holds m' (trace_by a x (rows_after a.rows (ordered a.kept c (accepted r))) (steps_in r) (plain m'))) (sym ef)
          (subst (λ x. Holds m' (trace_by a e x (steps_in r) (plain m'))) (sym ro) ho);
      slow = sl;
      call = ca;
      clears = subst (λ x. Clears x (plain m')) (sym ef) cl;
      arrives = subst (λ x. Arrives a (journey_by a.view.position a.journey x (plain m')) (plain m')) (sym ef) ar;
      stands = subst (Stands a) (sym ef) sd;
    }

-- a full stop leaves the rows of the table, but in Programming
pub stopped_rows :
    (s : State) (tb : TableMeans) (rows : List Segment) → ((programs s || tb.ready) ≡ true → rows ≡ tb.rows)
    → (table_stopped s tb).ready ≡ true → rows ≡ (table_stopped s tb).rows
stopped_rows Idle tb rows h e = h e
stopped_rows Programming tb rows h e = absurd (false≢true e)
stopped_rows (Running travel) tb rows h e = h e
stopped_rows (Pausing next ticks) tb rows h e = h e
stopped_rows (Holding travel) tb rows h e = h e
stopped_rows (Held target) tb rows h e = h e

pub stopped_start : (s : State) (tb : TableMeans) → tb.start ≡ (table_stopped s tb).start
stopped_start Idle tb = refl
stopped_start Programming tb = refl
stopped_start (Running travel) tb = refl
stopped_start (Pausing next ticks) tb = refl
stopped_start (Holding travel) tb = refl
stopped_start (Held target) tb = refl

-- nothing moves after it
pub stopped_rests : (t : Trace) (place : ℤ) (p : ProfileMeans) (v : View) (n : ℤ) (a : Account) (rows : List Segment) → IsResting (trace_by a Stops rows n v) place p
stopped_rests t place p v n a rows = record { journey = tt; over = refl; slows = omega arith }

-- what is at rest stands still
pub stands_still : (j : Journey) (v : View) → AtRest j v.position v.profile → Still j v
stands_still none v h = tt
stands_still (on x l ls w) v h = absurd h
stands_still (pausing u x l ls w) v h = absurd h
stands_still (held x l) v h = h.2
