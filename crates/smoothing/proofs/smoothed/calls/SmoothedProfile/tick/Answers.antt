use Rattle.std.proofs.Common.{ap, ◌∙◌}
use Rattle.smoothing.specs.SmoothLaws.{ticked_smooth}
use Rattle.smoothing.specs.Windows.{pushed}
use Rattle.smoothing.specs.WindowLaws.{kept_keeps}
use Rattle.smoothing.proofs.smoothed.calls.SmoothedProfile.tick.Goals as goal

pub returns-clause-ticked : goal.returns-clause-ticked
returns-clause-ticked g c =
    let m = g.P.Profile.means c.args.self.now.below in
    let m' = g.P.Profile.means c.tick.new.self in
    let w = c.args.self.now.window in
    let w' = c.push.new.self in
    ticked_smooth m m' c.tick.result w.kept w'.kept c.push.result
    (g.met.P.Profile.sound c.args.self.now.below)
    (g.met.P.Profile.sound c.tick.new.self)
    c.tick.ensures.ticked
    (kept_keeps m w c.args.self.now.in_step)
    (c.push.ensures.kept ∙ ap (λ s. pushed s.gone w.kept) c.from.ensures)
    c.push.ensures.rise
