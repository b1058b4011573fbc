-- What holds of every plan.
use Rattle.std.specs.Prelude.{◌<◌, ◌≤◌, Some, None, Option}
use Rattle.std.proofs.Common.{arith}
use Rattle.std.proofs.lemmas.List.{length-take}
use Rattle.profile.specs.Plans.{PlanMeans, Lawful, plan_means, plan_of, plan_steps, millisteps_of}
use Rattle.profile.specs.Profiles.{LawfulOf, start_of, fastest}
use Rattle.profile.specs.declared.plan.Plan.{Plan}
use Rattle.profile.specs.RowLaws.{top_least, top_most, steps_least}

pub lawful : (p : Plan) → Lawful (plan_means p)
lawful p =
    record {
      starts = p.starts;
      gains = p.gains;
      slows = p.slows;
      few = (p.some, omega (arith, length-take p.count p.rows, p.few));
      each = p.each;
      near = omega (arith, p.summed, p.near);
    }

pub lawful_of : (o : Option Plan) → LawfulOf (plan_of o)
lawful_of None = tt
lawful_of (Some p) = lawful p

-- no plan goes farther than any may
pub way_near : (o : Option Plan) → millisteps_of o ≤ 16777214000
way_near None = omega arith
way_near (Some p) = omega (arith, (lawful p).near)

-- where something is asked for there is a plan, which starts
pub starts_some : (o : Option Plan) → 0 < millisteps_of o → 0 < start_of (plan_of o)
starts_some None h = absurd (omega arith)
starts_some (Some p) h = omega (arith, p.starts)

-- the starting speed is at most the top
pub start_top : (o : Option PlanMeans) → LawfulOf o → start_of o ≤ fastest o
start_top None l = omega arith
start_top (Some m) l = top_least m.start m.rows l.each l.few.0

-- no top is above the greatest speed that a row may have
pub top_bound : (o : Option PlanMeans) → LawfulOf o → fastest o ≤ 200000
top_bound None l = omega arith
top_bound (Some m) l = top_most m.start m.rows l.each

-- a plan has some steps
pub steps_some : (m : PlanMeans) → Lawful m → 1 ≤ plan_steps m
steps_some m l = steps_least m.start m.rows l.each l.few.0
