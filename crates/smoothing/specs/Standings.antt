-- Where a profile stands.
use Rattle.std.specs.Prelude.{ℕ}
use Rattle.profile.specs.Profiles.{ProfileMeans, fastest}

-- what it has gone, and its top
pub record StandingMeans : Type 0 where
  pub gone : ℕ
  pub top : ℕ

-- of a profile that means m
abbrev pub standing_of : ProfileMeans → StandingMeans
standing_of m = record { gone = m.gone; top = fastest m.plan }
