-- What a creeping profile means.
use Rattle.profile.specs.Creeping.{creeping}
use Rattle.profile.specs.Plans.{plan_of}
use Rattle.profile.specs.Profiles.{ProfileMeans}
use Rattle.profile.specs.Progresses.{progress_means}
use Rattle.profile.specs.declared.creep.Creep.{Creep}

abbrev pub creep_means : Creep → ProfileMeans
creep_means c = let m = progress_means c.progress in creeping (plan_of m.plan) m.asked m.gone
