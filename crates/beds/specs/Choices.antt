-- The drives and profiles of the beds that a script can name.
use Rattle.std.specs.Prelude.{◌≡◌, ℕ, ◌+◌, ◌-◌, List, [], ◌∷◌, None}
use Rattle.bed.specs.declared.kind.BaseProfile.{BaseProfile}
use Rattle.bed.specs.declared.kind.DriveKind.{DriveKind}
use Rattle.bed.specs.declared.kind.DriveKind.TheVariants.{Pulse, Phase}
use Rattle.bed.specs.declared.kind.ProfileKind.{ProfileKind}
use Rattle.bed.specs.declared.kind.Smoothings.{Smoothings}
use Rattle.bed.specs.declared.kind.Smoothings.TheVariants.{Unsmoothed, Once, Twice}
use Rattle.profile.specs.Profiles.{ProfileMeans}
use Rattle.smoothing.specs.Lengths.{length_for}

-- the most steps that a drive of a kind goes at once
abbrev pub reach_of : DriveKind → ℕ
reach_of Pulse = 200
reach_of Phase = 20

-- a smoothing of a length lags behind the profile below
abbrev pub smoothed_lag : ℕ → ℕ → ℕ
smoothed_lag lag length = lag + (length_for length - 1)

-- the lag of smoothings over a profile that has none itself
abbrev pub lag_with : Smoothings → ℕ
lag_with Unsmoothed = 0
lag_with (Once length) = smoothed_lag 0 length
lag_with (Twice outer inner) = smoothed_lag (smoothed_lag 0 inner) outer

-- the lag of a profile of a kind: creep and constant acceleration have none themselves
abbrev pub lag_of : ProfileKind → ℕ
lag_of kind = lag_with kind.smoothings

-- what a profile is made of: a base, and the lengths of the smoothings over it, the outermost first
pub record Shape : Type 0 where
  pub base : BaseProfile
  pub lengths : List ℕ

-- one more smoothing over it
abbrev pub smoothed_shape : ℕ → Shape → Shape
smoothed_shape length s = record { base = s.base; lengths = length ∷ s.lengths }

-- all those that a bed names
abbrev pub shape_with : Smoothings → Shape → Shape
shape_with Unsmoothed s = s
shape_with (Once length) s = smoothed_shape (length_for length) s
shape_with (Twice outer inner) s = smoothed_shape (length_for outer) (smoothed_shape (length_for inner) s)

-- what the profile of a kind is made of
abbrev pub shape_of : ProfileKind → Shape
shape_of kind = shape_with kind.smoothings (record { base = kind.base; lengths = [] })

-- a profile that has had no plan, with this lag
pub record Fresh (lag : ℕ) (m : ProfileMeans) : Type 0 where
  pub plan : m.plan ≡ None
  pub asked : m.asked ≡ 0
  pub gone : m.gone ≡ 0
  pub lags : m.lag ≡ lag
