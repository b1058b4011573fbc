use Rattle.std.proofs.Common.{sym, subst, ap, ◌∙◌}
use Rattle.smoothing.specs.Lengths.{length_for}
use Rattle.smoothing.specs.Smoothing.{smooth_means}
use Rattle.beds.specs.Choices.{Fresh, lag_with, smoothed_lag, smoothed_shape, shape_with}
use Rattle.beds.proofs.choice.on_base.Goals as goal

pub returns-in-Once : goal.returns-in-Once
returns-in-Once g c =
    let m = smooth_means c.smooth.result in
    let shaped = c.smooth.ensures.shape ∙ ap (λ k. shape_with k (g.P.Shaped.shape c.args.base)) (sym c.in-Once.is) in
    (m, subst (λ k. Fresh (lag_with k) m) (sym c.in-Once.is) (c.smooth.ensures.fresh 0 c.requires), rw shaped at c.run-in-Once.ensures)

pub returns-in-Twice : goal.returns-in-Twice
returns-in-Twice g c =
    let m = smooth_means c.smooth-in-Twice-2.result in
    let once = c.smooth-in-Twice.ensures.fresh 0 c.requires in
    let shaped =
    c.smooth-in-Twice-2.ensures.shape
    ∙ ap (smoothed_shape (length_for c.in-Twice.outer)) c.smooth-in-Twice.ensures.shape
    ∙ ap (λ k. shape_with k (g.P.Shaped.shape c.args.base)) (sym c.in-Twice.is) in (
      m,
      subst (λ k. Fresh (lag_with k) m) (sym c.in-Twice.is) (c.smooth-in-Twice-2.ensures.fresh (smoothed_lag 0 c.in-Twice.inner) once),
      rw shaped at c.run-in-Twice.ensures,
    )
