-- What a profile means, and what its calls make of that. The calls are relations: any profile that keeps them will do.
use Rattle.std.specs.Prelude.{◌≡◌, ℕ, ◌+◌, ◌-◌, ◌*◌, ◌/◌, ◌≤◌, Some, None, Option}
use Rattle.profile.specs.Plans.{PlanMeans, Lawful, plan_steps, plan_top}

-- the latest plan, if there was one; asked and gone in millisteps; left and lag in ticks
pub record ProfileMeans : Type 0 where
  pub plan : Option PlanMeans
  pub asked : ℕ
  pub gone : ℕ
  pub left : ℕ
  pub lag : ℕ

-- the starting speed of the plan, 0 before the first
abbrev pub start_of : Option PlanMeans → ℕ
start_of None = 0
start_of (Some p) = p.start

-- its deceleration, 0 before the first
abbrev pub decel_of : Option PlanMeans → ℕ
decel_of None = 0
decel_of (Some p) = p.decel

-- its top, 0 before the first
abbrev pub fastest : Option PlanMeans → ℕ
fastest None = 0
fastest (Some p) = plan_top p

-- a plan, if there is one, keeps the bounds of every plan
abbrev pub LawfulOf : Option PlanMeans → Type 0
LawfulOf None = Unit {0}
LawfulOf (Some p) = Lawful p

-- a ÷ b rounded up; 0 ÷ 0 is 0
abbrev pub up_div : ℕ → ℕ → ℕ
up_div a b = (a + (b - 1)) / b

-- the ticks that a plan may take, over a lag
abbrev pub plan_ticks : PlanMeans → ℕ → ℕ
plan_ticks p lag = up_div (1000 * plan_steps p) p.start + lag

-- the ticks that a brake may take
abbrev pub brake_ticks : ProfileMeans → ℕ
brake_ticks m = up_div (fastest m.plan - start_of m.plan) (decel_of m.plan) + m.lag

-- What always holds: gone is at most asked, and asked at most 16,777,214,000; left is 0 exactly when gone is asked; a plan is a lawful one;
-- before the first plan everything but the lag is 0.
pub record Sound (m : ProfileMeans) : Type 0 where
  pub reached : m.gone ≤ m.asked
  pub near : m.asked ≤ 16777214000
  pub done : m.left ≡ 0 → m.gone ≡ m.asked
  pub over : m.gone ≡ m.asked → m.left ≡ 0
  pub lawful : LawfulOf m.plan
  pub blank : m.plan ≡ None → (m.asked ≡ 0) × (m.gone ≡ 0) × (m.left ≡ 0)

-- a new plan: nothing has gone, all its steps are asked for, and left is at most the ticks that it may take
pub record Begun (m : ProfileMeans) (p : PlanMeans) (m' : ProfileMeans) : Type 0 where
  pub after : m' ≡ record { plan = Some p; asked = 1000 * plan_steps p; gone = 0; left = m'.left; lag = m.lag }
  pub soon : m'.left ≤ plan_ticks p m.lag

-- a tick that answers r, at most the top: gone grows by it and left falls by 1; with nothing left it answers 0, and nothing changes
pub record Ticked (m : ProfileMeans) (r : ℕ) (m' : ProfileMeans) : Type 0 where
  pub idle : m.left ≡ 0 → r ≡ 0
  pub within : r ≤ fastest m.plan
  pub after : m' ≡ record { plan = m.plan; asked = m.asked; gone = m.gone + r; left = m.left - 1; lag = m.lag }

-- A brake: only asked and left change, and neither rises; asked stays at least gone, and left becomes at most the ticks that a brake may take.
-- Before the first plan it does nothing.
pub record Braked (m m' : ProfileMeans) : Type 0 where
  pub after : m' ≡ record { plan = m.plan; asked = m'.asked; gone = m.gone; left = m'.left; lag = m.lag }
  pub less : m'.asked ≤ m.asked
  pub kept : m.gone ≤ m'.asked
  pub sooner : m'.left ≤ m.left
  pub soon : m'.left ≤ brake_ticks m
  pub blank : m.plan ≡ None → m' ≡ m
