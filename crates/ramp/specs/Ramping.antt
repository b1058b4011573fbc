-- A plan under constant acceleration, at so many millisteps asked for and gone, after the advance `last`. Each tick goes on by
-- the greatest advance that may be, until gone is asked. Before the first plan nothing is left. The lag is 0.
use Rattle.std.specs.Prelude.{◌≡◌, ℕ, zero, suc, ◌+◌, ◌-◌, true, false, List, [], Some, None, Option, nat_lt}
use Rattle.profile.specs.Plans.{PlanMeans, plan_means}
use Rattle.profile.specs.Profiles.{ProfileMeans, start_of, decel_of}
use Rattle.profile.specs.declared.plan.Plan.{Plan}
use Rattle.profile.specs.declared.row.Row.{Row}
use Rattle.ramp.specs.Advances.{May, advance}
use Rattle.ramp.specs.Braking.{braking}
use Rattle.ramp.specs.Speeds.{speed_at}

-- the rows of a plan: none before the first
abbrev pub rows_in : Option Plan → List Row
rows_in None = []
rows_in (Some p) = (plan_means p).rows

-- the braking distance of a speed
abbrev pub braking_of : Option PlanMeans → ℕ → ℕ
braking_of plan u = braking (start_of plan) (decel_of plan) u

-- what the next advance u keeps to: before the first plan it is 0
abbrev pub MayAdvance : Option PlanMeans → (asked gone last u : ℕ) → Type 0
MayAdvance None asked gone last u = u ≡ 0
MayAdvance (Some p) asked gone last u = May p.start p.accel p.decel (speed_at p.rows gone) last (asked - gone) u

-- the next advance: in a plan the greatest that may be, and 0 before the first
abbrev pub next_advance : PlanMeans → (asked gone last : ℕ) → ℕ
next_advance p asked gone last = advance p.start p.accel p.decel (speed_at p.rows gone) last (asked - gone)

abbrev pub advance_of : Option PlanMeans → (asked gone last : ℕ) → ℕ
advance_of None asked gone last = 0
advance_of (Some p) asked gone last = next_advance p asked gone last

-- the ticks until gone is asked, if they are n at most
unfoldable pub left_in : ℕ → PlanMeans → (asked gone last : ℕ) → ℕ
left_in zero p asked gone last = 0
left_in (suc n) p asked gone last =
    let u : ℕ = next_advance p asked gone last in
    elim (nat_lt gone asked) [ true ↦ suc (left_in n p asked (gone + u) u) | false ↦ 0 ]

-- the ticks left: at most one for each millistep to go, since each tick goes at least one
unfoldable pub ticks_left : PlanMeans → (asked gone last : ℕ) → ℕ
ticks_left p asked gone last = left_in (asked - gone) p asked gone last

-- the same, 0 before the first plan
abbrev pub left_of : Option PlanMeans → (asked gone last : ℕ) → ℕ
left_of None asked gone last = 0
left_of (Some p) asked gone last = ticks_left p asked gone last

-- what the profile means
abbrev pub ramping : Option PlanMeans → (asked gone last : ℕ) → ProfileMeans
ramping plan asked gone last = record { plan = plan; asked = asked; gone = gone; left = left_of plan asked gone last; lag = 0 }
