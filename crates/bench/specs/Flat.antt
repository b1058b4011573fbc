-- Rows that stand flat: steps, speed, steps, speed, ..
use Rattle.std.specs.Prelude.{◌≡◌, ℕ, zero, suc, ◌+◌, ◌*◌, ◌/◌, ◌≤◌, List, [], ◌∷◌, ◌++◌, length, drop, Some, None, Option, slice_index}
use Rattle.profile.specs.Plans.{PlanMeans, plan_means, plan_fault}
use Rattle.profile.specs.Profiles.{plan_ticks}
use Rattle.profile.specs.declared.plan.Plan.{Plan}
use Rattle.profile.specs.declared.row.Row.{Row}

-- the row of a pair
abbrev pub pair_row : List ℕ → Row
pair_row pair = record { steps = slice_index pair 0; speed = slice_index pair 1 }

-- the first n rows
unfoldable pub flat_rows : ℕ → List ℕ → List Row
flat_rows zero flat = []
flat_rows (suc n) flat = flat_rows n flat ++ record { steps = slice_index flat (2 * n); speed = slice_index flat (2 * n + 1) } ∷ []

-- all of them, as a plan with these numbers
abbrev pub plan_in : ℕ → ℕ → ℕ → List ℕ → PlanMeans
plan_in start accel decel flat = record { start = start; accel = accel; decel = decel; rows = flat_rows (length flat / 2) flat }

-- flat numbers make a plan: they break no bound of one, no speed is missing, and there are 16 rows at most
abbrev pub MakePlan : PlanMeans → List ℕ → Type 0
MakePlan m flat = (plan_fault m ≡ None) × (length flat ≡ 2 * (length flat / 2)) × (length flat / 2 ≤ 16)

-- a plan that is made has exactly these numbers, and they break no bound of a plan; there is one wherever they make one
abbrev pub MadeOf : PlanMeans → List ℕ → Option Plan → Type 0
MadeOf m flat None = MakePlan m flat → ⊥
MadeOf m flat (Some p) = (plan_fault m ≡ None) × (plan_means p ≡ m)

-- what is told of a plan that is run, over a profile of so much lag, in place of the first two numbers of a buffer: first its ticks, no more
-- than it may take
abbrev pub Told : PlanMeans → ℕ → List ℕ → List ℕ → Type 0
Told m lag before after = (slice_index after 0 ≤ plan_ticks m lag) × (drop 2 after ≡ drop 2 before)
