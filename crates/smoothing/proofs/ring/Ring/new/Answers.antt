use Rattle.std.proofs.Common.{take, replicate, ap, ◌∙◌, arith}
use Rattle.std.proofs.lemmas.List.{take-replicate}
use Rattle.smoothing.specs.Windows.{newest_first}
use Rattle.smoothing.specs.Rings.{newest_replicate}
use Rattle.smoothing.proofs.ring.Ring.new.Goals as goal

pub returns : goal.returns
returns c =
    let n = c.clamp.result in
    let v = c.args.value in
    ap (newest_first 0) (c.truncate.ensures.items ∙ ap (take n) c.from-values.ensures.0 ∙ take-replicate n 64 v (omega arith))
    ∙ newest_replicate n v
    ∙ ap (λ k. replicate k v) (omega arith)
