-- What a constant-acceleration profile means, and what a tick makes of it. The rule of the advances is in Advances.antt; here
-- they are the profile's own, from what it holds: a plan, if it has one yet, asked, gone and the last advance.
use Rattle.std.specs.Prelude.{◌≡◌, ℕ, ◌+◌, ◌<◌}
use Rattle.profile.specs.Plans.{plan_of}
use Rattle.profile.specs.Profiles.{ProfileMeans}
use Rattle.profile.specs.Progresses.{progress_means}
use Rattle.ramp.specs.Advances.{Greatest}
use Rattle.ramp.specs.Ramping.{MayAdvance, advance_of, ramping}
use Rattle.ramp.specs.declared.ramp.Ramp.{Ramp}

abbrev pub ramp_means : Ramp → ProfileMeans
ramp_means r = let m = progress_means r.progress in ramping (plan_of m.plan) m.asked m.gone r.last

-- its last advance: 0 before the first tick of a plan
abbrev pub last_of : Ramp → ℕ
last_of r = r.last

-- A tick from a to b that answers r: the greatest advance that may be. While something is left, gone grows by r and r is the
-- last advance; with nothing left the whole value stays.
pub record Advanced (a : Ramp) (r : ℕ) (b : Ramp) : Type 0 where
  pub greatest : let m = ramp_means a in Greatest (MayAdvance m.plan m.asked m.gone (last_of a)) r
  pub answer : let m = ramp_means a in r ≡ advance_of m.plan m.asked m.gone (last_of a)
  pub exactly : let m = ramp_means a in m.gone < m.asked → ramp_means b ≡ ramping m.plan m.asked (m.gone + r) r
  pub last : (ramp_means a).gone < (ramp_means a).asked → last_of b ≡ r
  pub idle : (ramp_means a).gone ≡ (ramp_means a).asked → b ≡ a
