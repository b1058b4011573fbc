use Rattle.std.proofs.Common.{◌<◌, ℕ, ap, arith}
use Rattle.std.proofs.lemmas.List.{length-replicate}
use Rattle.smoothing.specs.Lengths.{length_for}
use Rattle.smoothing.specs.Keeps.{total_replicate, mean_replicate, kept_replicate}
use Rattle.smoothing.proofs.window.Window.new.Goals as goal

pub invariant_of-result : goal.invariant_of-result
invariant_of-result c =
    let v = c.args.standing.gone in
    let t = c.args.standing.top in
    let n : ℕ = length_for c.args.length in
    let some : 0 < n = omega arith in
    let gone = ap (λ s. s.gone) c.standing.view_is in
    let sum = total_replicate n c.standing.inside.gone in
    let size = length-replicate n c.standing.inside.gone in
    let mean = mean_replicate n c.standing.inside.gone some in
    record { summed = cc; averaged = cc; steady = rw (c.new-kept.ensures, gone) (kept_replicate t v n some) }
