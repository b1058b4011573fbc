use Rattle.std.proofs.Common.{ℕ, replicate, ap, ◌∙◌, arith}
use Rattle.smoothing.specs.Lengths.{length_for}
use Rattle.smoothing.specs.Windows.{mean_of}
use Rattle.smoothing.specs.Keeps.{mean_replicate}
use Rattle.smoothing.proofs.smoothed.Smoothed.new.Goals as goal

pub returns-clause-gone : goal.returns-clause-gone
returns-clause-gone g c =
    let n : ℕ = length_for c.args.length in
    ap mean_of (c.new-window.ensures.kept ∙ ap (λ s. replicate n s.gone) c.from.ensures) ∙ mean_replicate n (g.P.Profile.means c.args.below).gone (omega arith)
