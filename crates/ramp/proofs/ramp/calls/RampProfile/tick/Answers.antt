use Rattle.std.proofs.Common.{◌≡◌, Some, arith}
use Rattle.std.proofs.lemmas.Grind.{common_steps}
use Rattle.profile.specs.Plans.{plan_means, plan_of}
use Rattle.profile.specs.PlanLaws.{lawful, top_bound}
use Rattle.ramp.specs.Advances.{Greatest}
use Rattle.ramp.specs.CallLaws.{last_bound}
use Rattle.ramp.specs.Ramping.{MayAdvance}
use Rattle.ramp.specs.Speeds.{speed_at}
use Rattle.ramp.specs.SpeedLaws.{speed_top}
use Rattle.ramp.specs.RampLaws.{greatest_next, idle_greatest, idle_ticks, sound, ticks_of}
use Rattle.ramp.proofs.ramp.calls.RampProfile.tick.Goals as goal
use Rattle.ramp.proofs.ramp.calls.RampProfile.tick.Goals.{After-go}

pub next_advance-advance-requires : goal.next_advance-advance-requires
next_advance-advance-requires c =
    let p = c.in-Some.plan.now in
    let top = top_bound (Some (plan_means p)) (lawful p) in
    let row = speed_top (plan_means p).rows c.args.self.now.progress.gone in
    let same : c.speed_after-row_speed.result ≡ speed_at (plan_means p).rows c.args.self.now.progress.gone = cc in
    record { row = omega (arith, same, row, top); last = last_bound c.args.self.now }

module _ (c : After-go) where
  greatest : Greatest (MayAdvance (plan_of c.args.self.now.progress.plan) c.args.self.now.progress.asked c.args.self.now.progress.gone c.args.self.now.last) c.go.result
  greatest =
      let e : c.args.self.now.progress.plan ≡ Some c.in-Some.plan.now = grind arith in
      let same : c.go.result ≡ c.next_advance-advance.result = grind arith in
      let v : c.speed_after-row_speed.result ≡ speed_at (plan_means c.in-Some.plan.now).rows c.args.self.now.progress.gone = cc in
      rw (e, same) (rw (v, c.left-rest.ensures) at c.next_advance-advance.ensures)

pub returns-then-rest-eq0 : goal.returns-then-rest-eq0
returns-then-rest-eq0 c =
    let a = c.args.self.now in
    let m = a.progress in
    let e : m.gone ≡ m.asked = omega (arith, m.reached) in
    record {
      ticked = idle_ticks _ ((sound m.plan m.asked m.gone a.last m.reached m.within).over e);
      advanced = grind (arith, idle_greatest (plan_of m.plan) m.asked m.gone a.last e, greatest_next (plan_of m.plan) m.asked m.gone a.last 0);
    }

pub invariant_of-self : goal.invariant_of-self
invariant_of-self c =
    let a = c.args.self.now in
    let m = a.progress in
    let g = greatest c in
    let t = ticks_of m.plan m.asked m.gone a.last c.go.result m.within a.slow (omega arith) g in
    grind (arith, common_steps, t)

pub returns : goal.returns
returns c =
    let a = c.args.self.now in
    let m = a.progress in
    let g = greatest (goal.at.returns c).After-go in
    let t = ticks_of m.plan m.asked m.gone a.last c.go.result m.within a.slow (omega arith) g in
    record {
      ticked = grind (arith, t);
      advanced = grind (arith, greatest_next (plan_of m.plan) m.asked m.gone a.last c.go.result);
    }
