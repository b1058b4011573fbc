-- What holds between the account of a run and the axis that the run leads to.
use Rattle.std.proofs.Common.{◌≡◌, ℕ, ◌+◌, ◌*◌, ◌<◌, ◌≤◌, Bool, true, false, cond, eqb, ◌||◌, List, [], ◌∷◌, map, drop, ℤ, Some, None, Option, refl}
use Rattle.drive.specs.declared.direction.Direction.{Direction}
use Rattle.profile.specs.Plans.{plan_steps}
use Rattle.profile.specs.Profiles.{ProfileMeans, plan_ticks}
use Rattle.profile.specs.declared.rates.Rates.{Rates}
use Rattle.table.specs.Segments.{row_of, way_of}
use Rattle.table.specs.Tables.{TableMeans}
use Rattle.table.specs.declared.segment.Segment.{Segment}
use Rattle.axis.specs.Axes.{AxisMeans}
use Rattle.axis.specs.Questions.{programs}
use Rattle.axis.specs.declared.order.DwellRow.{DwellRow}
use Rattle.axis.specs.declared.order.DwellRun.{DwellRun}
use Rattle.axis.specs.declared.state.Kind.{Kind}
use Rattle.axis.specs.declared.state.Kind.TheVariants.{Single, Blend, Dwell}
use Rattle.axis.specs.declared.state.State.{State}
use Rattle.axis.specs.declared.state.State.TheVariants.{Idle, Programming, Running, Pausing, Holding, Held}
use Rattle.law.specs.Accounts.{Account, Timing, Rest}
use Rattle.law.specs.Journeys.{Leg, Journey, none, on, pausing, held, along, end_of_leg, later_ticks}
use Rattle.law.specs.Moments.{View}

-- what is to be seen of an axis, in plain words
abbrev pub plain : AxisMeans → View
plain m = record { position = m.drive.place; complete = m.memory.flags.complete; drive = m.drive; profile = m.profile }

-- the part of an account that the axis does not keep in the same form
pub record Trace : Type 0 where
  pub rows : List Segment
  pub target : ℤ
  pub journey : Journey
  pub underway : Option Timing
  pub resting : Option Rest

abbrev pub told : AxisMeans → Trace → Account
told m t =
    record {
      view = plain m;
      counted = m.drive.place;
      kept = m.memory.kept;
      levels = m.memory.levels;
      start = m.memory.table.start;
      rows = t.rows;
      target = t.target;
      journey = t.journey;
      underway = t.underway;
      resting = t.resting;
    }

abbrev pub trace_of : Account → Trace
trace_of a = record { rows = a.rows; target = a.target; journey = a.journey; underway = a.underway; resting = a.resting }

-- the rows of a table from one on, as legs of a run
abbrev pub leg_of_row : ℕ → Rates → Segment → Leg
leg_of_row S rates s = record { way = way_of s; plan = record { start = S; accel = rates.accel; decel = rates.decel; rows = row_of s ∷ [] } }

abbrev pub legs_from : TableMeans → DwellRun → ℕ → List Leg
legs_from tb run i = map (leg_of_row tb.start run.rates) (drop i tb.rows)

-- where legs end
abbrev pub legs_end : ℤ → List Leg → ℤ
legs_end x [] = x
legs_end x (l ∷ ls) = legs_end (end_of_leg x l) ls

-- the legs after the plan in motion, and the pause before each
abbrev pub later : TableMeans → Kind → List Leg
later tb (Single target) = []
later tb Blend = []
later tb (Dwell row) = legs_from tb row.run (row.index + 1)

abbrev pub pause_of : Kind → ℕ
pause_of (Single target) = 0
pause_of Blend = 0
pause_of (Dwell row) = row.run.dwell

-- a single move has the target that it was sent to
abbrev pub Aims : Kind → ℤ → Type 0
Aims (Single target) to = target ≡ to
Aims Blend to = Unit {0}
Aims (Dwell row) to = Unit {0}

-- there is time for so many ticks, and so many may still send steps
abbrev pub Timed : Option Timing → ℕ → Type 0
Timed None n = Unit {0}
Timed (Some t) n = t.passed + n ≤ t.allowed

abbrev pub Rests : Option Rest → ℕ → Type 0
Rests None n = Unit {0}
Rests (Some r) n = r.sent + n ≤ r.allowed

-- on a leg from x
pub record OnLeg (x : ℤ) (l : Leg) (way : Direction) (place : ℤ) (p : ProfileMeans) : Type 0 where
  pub way_is : way ≡ l.way
  pub plan_is : p.plan ≡ Some l.plan
  pub keeps_up : place ≡ along x l p.gone

pub record IsRunning (t : Trace) (tb : TableMeans) (place : ℤ) (p : ProfileMeans) (way : Direction) (kind : Kind) : Type 0 where
  pub from : ℤ
  pub leg : Leg
  pub journey : t.journey ≡ on from leg (later tb kind) (pause_of kind)
  pub leg_is : OnLeg from leg way place p
  pub asked : p.asked ≡ 1000 * plan_steps leg.plan
  pub busy : 0 < p.left
  pub aims : Aims kind t.target
  pub ends : legs_end (end_of_leg from leg) (later tb kind) ≡ t.target
  pub timed : Timed t.underway (p.left + later_ticks p.lag (pause_of kind) (later tb kind))
  pub free : t.resting ≡ None

pub record IsPausing (t : Trace) (tb : TableMeans) (place : ℤ) (p : ProfileMeans) (next : DwellRow) (ticks : ℕ) : Type 0 where
  pub waited : ℕ
  pub leg : Leg
  pub legs : List Leg
  pub journey : t.journey ≡ pausing waited place leg legs next.run.dwell
  pub counts : waited + ticks ≡ next.run.dwell
  pub legs_are : leg ∷ legs ≡ legs_from tb next.run next.index
  pub over : p.gone ≡ p.asked
  pub ends : legs_end place (leg ∷ legs) ≡ t.target
  pub timed : Timed t.underway (ticks + (plan_ticks leg.plan p.lag + later_ticks p.lag next.run.dwell legs))
  pub free : t.resting ≡ None

pub record IsHolding (t : Trace) (place : ℤ) (p : ProfileMeans) (way : Direction) (kind : Kind) : Type 0 where
  pub from : ℤ
  pub leg : Leg
  pub journey : t.journey ≡ held from leg
  pub leg_is : OnLeg from leg way place p
  pub busy : 0 < p.left
  pub aims : Aims kind t.target
  pub over : t.underway ≡ None
  pub slows : Rests t.resting p.left

-- at rest
abbrev pub AtRest : Journey → ℤ → ProfileMeans → Type 0
AtRest none place p = Unit {0}
AtRest (on x l ls w) place p = ⊥
AtRest (pausing u x l ls w) place p = ⊥
AtRest (held x l) place p = (p.plan ≡ Some l.plan) × (place ≡ along x l p.gone) × (eqb p.gone p.asked ≡ true)

pub record IsResting (t : Trace) (place : ℤ) (p : ProfileMeans) : Type 0 where
  pub journey : AtRest t.journey place p
  pub over : t.underway ≡ None
  pub slows : Rests t.resting 0

abbrev pub Moving : State → Trace → TableMeans → ℤ → ProfileMeans → Type 0
Moving Idle t tb place p = IsResting t place p
Moving Programming t tb place p = IsResting t place p
Moving (Running travel) t tb place p = IsRunning t tb place p travel.direction travel.kind
Moving (Pausing next ticks) t tb place p = IsPausing t tb place p next ticks
Moving (Holding travel) t tb place p = IsHolding t place p travel.direction travel.kind
Moving (Held target) t tb place p = IsResting t place p × (target ≡ t.target)

-- the rows of the latest programming are those of the table, while it is programmed and when it is ready
abbrev pub Programmed : Trace → AxisMeans → Type 0
Programmed t m = (programs m.memory.state || m.memory.table.ready) ≡ true → t.rows ≡ m.memory.table.rows

pub record Holds (m : AxisMeans) (t : Trace) : Type 0 where
  pub rows : Programmed t m
  pub moving : Moving m.memory.state t m.memory.table m.drive.place m.profile

-- what stays of what was told, when a moment does nothing to the motion
abbrev pub unmoved : Trace → Bool → Trace
unmoved t b = record { rows = t.rows; target = t.target; journey = t.journey; underway = cond b None t.underway; resting = t.resting }

timed_still : (b : Bool) (u : Option Timing) (n : ℕ) → Timed u n → Timed (cond b None u) n
timed_still true u n h = tt
timed_still false u n h = h

over_still : (b : Bool) (u : Option Timing) → u ≡ None → cond b None u ≡ None
over_still true u h = refl
over_still false u h = h

pub rests_still : (b : Bool) (t : Trace) (place : ℤ) (p : ProfileMeans) → IsResting t place p → IsResting (unmoved t b) place p
rests_still b t place p h = record { journey = h.journey; over = over_still b t.underway h.over; slows = h.slows }

pub moves_still : (s : State) (b : Bool) (t : Trace) (tb : TableMeans) (place : ℤ) (p : ProfileMeans) → Moving s t tb place p → Moving s (unmoved t b) tb place p
moves_still Idle b t tb place p h = rests_still b t place p h
moves_still Programming b t tb place p h = rests_still b t place p h
moves_still (Running travel) b t tb place p h =
    record {
      from = h.from;
      leg = h.leg;
      journey = h.journey;
      leg_is = h.leg_is;
      asked = h.asked;
      busy = h.busy;
      aims = h.aims;
      ends = h.ends;
      timed = timed_still b t.underway _ h.timed;
      free = h.free;
    }
moves_still (Pausing next ticks) b t tb place p h =
    record {
      waited = h.waited;
      leg = h.leg;
      legs = h.legs;
      journey = h.journey;
      counts = h.counts;
      legs_are = h.legs_are;
      over = h.over;
      ends = h.ends;
      timed = timed_still b t.underway _ h.timed;
      free = h.free;
    }
moves_still (Holding travel) b t tb place p h =
    record {
      from = h.from;
      leg = h.leg;
      journey = h.journey;
      leg_is = h.leg_is;
      busy = h.busy;
      aims = h.aims;
      over = over_still b t.underway h.over;
      slows = h.slows;
    }
moves_still (Held target) b t tb place p h = (rests_still b t place p h.0, h.1)
