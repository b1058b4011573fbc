-- What a tick does, state by state. Gone, in millisteps, is the profile's before its tick, and p what the profile means after it. What this
-- means for a whole move is the law of runs.
use Rattle.std.specs.Prelude.{◌≡◌, ℕ, ◌-◌, ◌/◌, Bool, true, false, cond, not, ◌||◌, ℤ, pos, is_some, is_ok, MatchBool, ◌==◌, unsigned_abs}
use Rattle.drive.specs.Directions.{signed}
use Rattle.drive.specs.Drives.{DriveMeans, landing, landed}
use Rattle.drive.specs.declared.direction.Direction.{Direction}
use Rattle.profile.specs.Plans.{PlanMeans, plan_fault}
use Rattle.profile.specs.Profiles.{ProfileMeans, Begun, Ticked}
use Rattle.table.specs.TablePlans.{row_plan}
use Rattle.axis.specs.Axes.{AxisMeans, with_memory}
use Rattle.axis.specs.Carrying.{began, row_travel}
use Rattle.axis.specs.Memories.{with_state, with_pace}
use Rattle.axis.specs.Stops.{stopped, kept_going}
use Rattle.axis.specs.declared.order.DwellRow.{DwellRow}
use Rattle.axis.specs.declared.state.State.{State}
use Rattle.axis.specs.declared.state.State.TheVariants.{Idle, Programming, Running, Pausing, Holding, Held}

-- the whole steps of gone that were not sent before, with the direction's sign
abbrev pub due : Direction → ℕ → ProfileMeans → ℤ
due way gone p = signed way (p.gone / 1000 - gone / 1000)

-- whether the drive takes n steps; where there are none, it is not called
unfoldable pub takes_all : ℕ → DriveMeans → ℤ → Bool
takes_all g d n = unsigned_abs n == 0 || is_ok (landing g d n)

-- what the drive means then
unfoldable pub sent_to : ℕ → DriveMeans → ℤ → DriveMeans
sent_to g d n = cond (unsigned_abs n == 0) d (landed d (landing g d n))

-- the steps that a tick in motion answers: those due, unless the drive refuses them
abbrev pub steps_sent : ℕ → AxisMeans → Direction → ℕ → ProfileMeans → ℤ
steps_sent g m way gone p = cond (takes_all g m.drive (due way gone p)) (due way gone p) (pos 0)

-- the axis once the profile has ticked and the steps due went to the drive
abbrev pub moved : ℕ → AxisMeans → Direction → ℕ → ProfileMeans → AxisMeans
moved g m way gone p =
    record {
      drive = sent_to g m.drive (due way gone p);
      profile = p;
      memory = with_pace m.memory (record { last = p.gone - gone; before = m.memory.pace.last });
    }

-- a tick of what moves, in a state: it goes on, and a drive that refuses makes a full stop
abbrev pub moved_on : ℕ → State → AxisMeans → Direction → ℕ → ProfileMeans → AxisMeans
moved_on g s m way gone p =
    with_memory (moved g m way gone p)
    (cond (takes_all g m.drive (due way gone p))
    (kept_going s (moved g m way gone p).memory (p.left == 0) (moved g m way gone p).drive.place)
    (stopped (moved g m way gone p).memory))

-- numbers that make a plan
abbrev pub is_plan : PlanMeans → Bool
is_plan plan = not (is_some (plan_fault plan))

-- the steps of the tick that begins the next row of a dwell move, which ticks it at once; where there is no such row, a full stop
abbrev pub row_steps : ℕ → AxisMeans → DwellRow → ProfileMeans → ℤ
row_steps g m row p =
    cond (is_plan (row_plan m.memory.table row.run.rates row.index)) (steps_sent g m (row_travel m.memory.table row).direction 0 p) (pos 0)

-- what that tick makes of the axis
abbrev pub row_begun : ℕ → AxisMeans → DwellRow → ProfileMeans → AxisMeans
row_begun g m row p =
    cond (is_plan (row_plan m.memory.table row.run.rates row.index))
    (moved_on g (Running (row_travel m.memory.table row)) (began m (row_travel m.memory.table row) p) (row_travel m.memory.table row).direction 0 p)
    (with_memory m (stopped m.memory))

-- the states whose tick is in motion: running, holding, and a pause that is over
abbrev pub in_motion : State → Bool
in_motion Idle = false
in_motion Programming = false
in_motion (Running travel) = true
in_motion (Pausing next ticks) = ticks == 0
in_motion (Holding travel) = true
in_motion (Held target) = false

-- the steps that a tick answers
abbrev pub tick_steps : ℕ → State → AxisMeans → ProfileMeans → ℤ
tick_steps g Idle m p = pos 0
tick_steps g Programming m p = pos 0
tick_steps g (Running travel) m p = steps_sent g m travel.direction m.profile.gone p
tick_steps g (Pausing next ticks) m p = cond (ticks == 0) (row_steps g m next p) (pos 0)
tick_steps g (Holding travel) m p = steps_sent g m travel.direction m.profile.gone p
tick_steps g (Held target) m p = pos 0

-- What it makes of the axis: in motion the plan goes on, a pause is counted, and the tick after a pause begins the next row; in any other
-- state nothing.
abbrev pub tick_after : ℕ → State → AxisMeans → ProfileMeans → AxisMeans
tick_after g Idle m p = m
tick_after g Programming m p = m
tick_after g (Running travel) m p = moved_on g (Running travel) m travel.direction m.profile.gone p
tick_after g (Pausing next ticks) m p = cond (ticks == 0) (row_begun g m next p) (with_memory m (with_state m.memory (Pausing next (ticks - 1))))
tick_after g (Holding travel) m p = moved_on g (Holding travel) m travel.direction m.profile.gone p
tick_after g (Held target) m p = m

-- the profile ticks once
pub record OneTick (m p : ProfileMeans) : Type 0 where
  pub advance : ℕ
  pub ticked : Ticked m advance p

-- the profile begins a plan and ticks once
pub record FirstTick (m : ProfileMeans) (plan : PlanMeans) (p : ProfileMeans) : Type 0 where
  pub begun : ProfileMeans
  pub begins : Begun m plan begun
  pub ticks : OneTick begun p

-- what becomes of the profile: in motion it ticks, and the tick that begins a row begins exactly that row's plan
abbrev pub TickUses : State → AxisMeans → ProfileMeans → Type 0
TickUses Idle m p = p ≡ m.profile
TickUses Programming m p = p ≡ m.profile
TickUses (Running travel) m p = OneTick m.profile p
TickUses (Pausing next ticks) m p =
    MatchBool (ticks == 0)
    (MatchBool (is_plan (row_plan m.memory.table next.run.rates next.index)) (FirstTick m.profile (row_plan m.memory.table next.run.rates next.index) p) (p ≡ m.profile))
    (p ≡ m.profile)
TickUses (Holding travel) m p = OneTick m.profile p
TickUses (Held target) m p = p ≡ m.profile
