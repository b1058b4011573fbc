-- How far a plan has gone, and what the calls make of that.
use Rattle.std.specs.Prelude.{ℕ, ◌+◌, ◌-◌, min, max, Some, None, Option}
use Rattle.profile.specs.Plans.{millisteps_of}
use Rattle.profile.specs.declared.plan.Plan.{Plan}
use Rattle.profile.specs.declared.progress.Progress.{Progress}

-- the latest plan, if there was one, and the millisteps asked for and gone
pub record ProgressMeans : Type 0 where
  pub plan : Option Plan
  pub asked : ℕ
  pub gone : ℕ

abbrev pub progress_means : Progress → ProgressMeans
progress_means p = record { plan = p.plan; asked = p.asked; gone = p.gone }

-- before the first plan
abbrev pub no_progress : ProgressMeans
no_progress = record { plan = None; asked = 0; gone = 0 }

-- a plan just begun: all its millisteps are asked for
abbrev pub begun_progress : Plan → ProgressMeans
begun_progress p = record { plan = Some p; asked = millisteps_of (Some p); gone = 0 }

-- what is asked for and has not gone
abbrev pub way_left : ProgressMeans → ℕ
way_left m = m.asked - m.gone

-- after so many millisteps more, or after what is left where that is less
abbrev pub gone_on : ℕ → ProgressMeans → ProgressMeans
gone_on n m = record { plan = m.plan; asked = m.asked; gone = m.gone + min n (way_left m) }

-- with so many asked for: no fewer than have gone, and no more than before
abbrev pub asked_for : ℕ → ProgressMeans → ProgressMeans
asked_for n m = record { plan = m.plan; asked = max m.gone (min n m.asked); gone = m.gone }
