use Rattle.std.proofs.Common.{◌≡◌, ◌<◌, ℕ, length, ap, ◌∙◌, arith}
use Rattle.std.proofs.lemmas.List.{length-replicate}
use Rattle.smoothing.specs.Keeps.{total_replicate, mean_replicate, kept_replicate}
use Rattle.smoothing.proofs.window.Window.refill.Goals as goal

pub invariant_of-self : goal.invariant_of-self
invariant_of-self c =
    let v = c.standing.inside.gone in
    let n : ℕ = length c.args.self.now.kept in
    let gone = ap (λ s. s.gone) c.standing.view_is in
    let size = length-replicate n v in
    let count : c.len.result ≡ n = c.len.ensures.length ∙ (ap length c.refill.ensures ∙ size) in
    let some : 0 < n = omega (arith, c.len.ensures.within, count) in
    let sum = total_replicate n v in
    let mean = mean_replicate n v some in
    record { summed = cc; averaged = cc; steady = rw (c.refill.ensures, gone) (kept_replicate c.args.standing.top c.args.standing.gone n some) }
