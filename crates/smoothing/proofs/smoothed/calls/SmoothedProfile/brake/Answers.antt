use Rattle.std.proofs.Common.{refl}
use Rattle.smoothing.specs.SmoothLaws.{braked_smooth}
use Rattle.smoothing.specs.WindowLaws.{kept_keeps}
use Rattle.smoothing.proofs.smoothed.calls.SmoothedProfile.brake.Goals as goal

pub returns-clause-braked : goal.returns-clause-braked
returns-clause-braked g c =
    let w = c.args.self.now.window in
    let m = g.P.Profile.means c.args.self.now.below in
    let m' = g.P.Profile.means c.brake.new.self in
    braked_smooth m m' w.kept w.kept (kept_keeps m w c.args.self.now.in_step) c.brake.ensures.braked refl
