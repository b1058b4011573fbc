-- A plan: a starting speed, an acceleration, a deceleration and rows of steps and speed.
use Rattle.std.specs.Prelude.{◌≡◌, ℕ, ◌*◌, ◌≤◌, true, cond, not, List, length, take, Some, None, Option, Result, MatchResult, nat_lt}
use Rattle.profile.specs.Ranges.{outside}
use Rattle.profile.specs.Rows.{are_rows, steps_of, top_of}
use Rattle.profile.specs.declared.fault.PlanFault.{PlanFault}
use Rattle.profile.specs.declared.fault.PlanFault.TheVariants as fault
use Rattle.profile.specs.declared.plan.Plan.{Plan}
use Rattle.profile.specs.declared.row.Row.{Row}

pub record PlanMeans : Type 0 where
  pub start : ℕ
  pub accel : ℕ
  pub decel : ℕ
  pub rows : List Row

-- what a plan means: its rows are the first `count` of those that it keeps
abbrev pub plan_means : Plan → PlanMeans
plan_means p = record { start = p.start; accel = p.rates.accel; decel = p.rates.decel; rows = take p.count p.rows }

-- the steps of all rows
abbrev pub plan_steps : PlanMeans → ℕ
plan_steps m = steps_of m.rows

-- the top: the greatest speed of a row
abbrev pub plan_top : PlanMeans → ℕ
plan_top m = top_of m.rows

-- what holds of every plan
pub record Lawful (m : PlanMeans) : Type 0 where
  pub starts : 1 ≤ m.start
  pub gains : (1 ≤ m.accel) × (m.accel ≤ 5000)
  pub slows : (1 ≤ m.decel) × (m.decel ≤ 5000)
  pub few : (1 ≤ length m.rows) × (length m.rows ≤ 16)
  pub each : are_rows m.start m.rows ≡ true
  pub near : plan_steps m ≤ 16777214

-- the first reason why numbers make no plan, if there is one
abbrev pub plan_fault : PlanMeans → Option PlanFault
plan_fault m =
    cond (nat_lt m.start 1) (Some fault.Start)
    (cond (outside 1 5000 m.accel) (Some fault.Acceleration)
    (cond (outside 1 5000 m.decel) (Some fault.Deceleration)
    (cond (outside 1 16 (length m.rows)) (Some fault.RowCount)
    (cond (not (are_rows m.start m.rows)) (Some fault.Row)
    (cond (nat_lt 16777214 (plan_steps m)) (Some fault.Length) None)))))

-- A plan asked for with these numbers: what comes back has exactly these, or it is the first reason against them. It is
-- refused exactly when the numbers break a bound of every plan.
pub record Made (m : PlanMeans) (r : Result Plan PlanFault) : Type 0 where
  pub answer : MatchResult r (λ p. (plan_fault m ≡ None) × (plan_means p ≡ m)) (λ e. plan_fault m ≡ Some e)
  pub lawful : plan_fault m ≡ None → Lawful m
  pub taken : Lawful m → plan_fault m ≡ None

-- the plan of a profile, if it has one yet
abbrev pub plan_of : Option Plan → Option PlanMeans
plan_of None = None
plan_of (Some p) = Some (plan_means p)

-- all its millisteps, 0 before the first
abbrev pub millisteps_of : Option Plan → ℕ
millisteps_of None = 0
millisteps_of (Some p) = 1000 * plan_steps (plan_means p)
