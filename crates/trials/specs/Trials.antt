-- The plan that a line of the input asks for.
use Rattle.profile.specs.Plans.{PlanMeans}
use Rattle.trials.specs.declared.trial.Trial.{Trial}

abbrev pub plan_asked : Trial → PlanMeans
plan_asked t = record { start = t.start; accel = t.rates.accel; decel = t.rates.decel; rows = t.rows.items }
