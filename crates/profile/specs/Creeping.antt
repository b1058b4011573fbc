-- Creep: every tick advances by the starting speed, or by what is left where that is less. Its lag is 0.
use Rattle.std.specs.Prelude.{ℕ, ◌-◌, min, Option}
use Rattle.profile.specs.Plans.{PlanMeans}
use Rattle.profile.specs.Profiles.{ProfileMeans, start_of, up_div}

-- what it means at so many millisteps asked for and gone
abbrev pub creeping : Option PlanMeans → ℕ → ℕ → ProfileMeans
creeping plan asked gone = record { plan = plan; asked = asked; gone = gone; left = up_div (asked - gone) (start_of plan); lag = 0 }

-- its next advance
abbrev pub creep_advance : ProfileMeans → ℕ
creep_advance m = min (start_of m.plan) (m.asked - m.gone)
