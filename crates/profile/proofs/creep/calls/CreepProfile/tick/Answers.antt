use Rattle.std.proofs.Common.{◌≡◌, ◌+◌, rules, sym, subst}
use Rattle.profile.specs.Creeping.{creeping, creep_advance}
use Rattle.profile.specs.Creeps.{creep_means}
use Rattle.profile.specs.CreepLaws.{ticks}
use Rattle.profile.specs.Plans.{plan_of}
use Rattle.profile.specs.Profiles.{ProfileMeans, Ticked}
use Rattle.profile.proofs.creep.calls.CreepProfile.tick.Goals as goal

pub returns-clause-ticked : goal.returns-clause-ticked
returns-clause-ticked c =
    let s = c.args.self.now.progress in
    let r = c.go.result in
    let e : r ≡ creep_advance (creep_means c.args.self.now) = search rules in
    let n : creep_means (record { progress = c.go.new.self }) ≡ creeping (plan_of s.plan) s.asked (s.gone + r) = search rules in
    let P : ProfileMeans → Type 0 = λ m. Ticked (creep_means c.args.self.now) r m in
    subst P (sym n) (ticks s.plan s.asked s.gone s.reached s.within r e)
