use Rattle.std.proofs.Common.{length, replicate, ap, ◌∙◌}
use Rattle.profile.specs.Plans.{plan_means}
use Rattle.smoothing.specs.SmoothLaws.{begun_smooth}
use Rattle.smoothing.specs.WindowLaws.{some}
use Rattle.smoothing.proofs.smoothed.calls.SmoothedProfile.begin.Goals as goal

pub returns-clause-begun : goal.returns-clause-begun
returns-clause-begun g c =
    let m = g.P.Profile.means c.args.self.now.below in
    let m' = g.P.Profile.means c.begin.new.self in
    let w = c.args.self.now.window in
    begun_smooth m m' (plan_means c.args.plan) w.kept c.refill.new.self.kept (some w) c.begin.ensures.begun
    (c.refill.ensures.kept ∙ ap (replicate (length w.kept)) (ap (λ s. s.gone) c.from.ensures ∙ ap (λ x. x.gone) c.begin.ensures.begun.after))
