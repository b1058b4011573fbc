-- What a window holds, in step with the profile below.
use Rattle.std.specs.Prelude.{◌≡◌, ◌<◌, length}
use Rattle.std.proofs.Common.{subst}
use Rattle.profile.specs.Profiles.{ProfileMeans, fastest}
use Rattle.smoothing.specs.Standings.{StandingMeans, standing_of}
use Rattle.smoothing.specs.Windows.{Kept}
use Rattle.smoothing.specs.declared.window.Window.{Window}
use Rattle.smoothing.specs.Keeps.{kept_some}

pub some : (w : Window) → 0 < length w.kept
some w = kept_some w.standing.top w.standing.gone w.kept w.steady

-- its values keep, over what the profile has gone and its top
pub kept_keeps : (m : ProfileMeans) (w : Window) → w.standing ≡ standing_of m → Kept (fastest m.plan) m.gone w.kept
kept_keeps m w e = let P : StandingMeans → Type 0 = λ s. Kept s.top s.gone w.kept in subst P e w.steady
