use Rattle.std.proofs.Common.{◌≡◌, ℕ, ◌+◌, ◌-◌, ◌/◌, ◌≤◌, length, sum, sym, ap, ◌∙◌, arith}
use Rattle.smoothing.specs.Windows.{mean_of, Kept}
use Rattle.smoothing.specs.Pushes.{length_pushed, total_pushed}
use Rattle.smoothing.specs.Keeps.{kept_pushed, total_fits, mean_rises, mean_near}
use Rattle.smoothing.specs.declared.window.Window.{Window}
use Rattle.smoothing.proofs.window.Window.push.Goals as goal
use Rattle.smoothing.proofs.window.Window.push.Goals.{After-push}

pub overflow_add-total : goal.overflow_add-total
overflow_add-total c =
    let w = c.args.self.now in
    omega (arith, w.summed, total_fits w.standing.top w.standing.gone w.kept w.steady (omega (arith, c.len-count.ensures)) (omega arith))

pub overflow_sub-total : goal.overflow_sub-total
overflow_sub-total c = let w = c.args.self.now in omega (arith, w.summed, total_pushed c.standing.inside.gone w.kept)

module _ (c : After-push) where
  abbrev w : Window
  w = c.args.self.now

  abbrev v : ℕ
  v = c.standing.inside.gone

  abbrev total : ℕ
  total = w.total + v - c.push.result

  total_is : total ≡ sum c.push.new.self
  total_is = omega (arith, w.summed, total_pushed v w.kept, ap sum c.push.ensures.kept)

  mean_is : total / c.len-count.result ≡ mean_of c.push.new.self
  mean_is =
      ap (λ s. s / c.len-count.result) total_is
      ∙ ap (λ n. sum c.push.new.self / n) (c.len-count.ensures.length ∙ sym (ap length c.push.ensures.kept ∙ length_pushed v w.kept))

  gone : v ≡ c.args.standing.gone
  gone = ap (λ s. s.gone) c.standing.view_is

  from : w.standing.gone ≤ v
  from = omega (arith, gone)

  to : v ≤ w.standing.gone + w.standing.top
  to = omega (arith, gone)

  rises : w.mean ≤ total / c.len-count.result
  rises = omega (arith, w.averaged, mean_is, ap mean_of c.push.ensures.kept, mean_rises w.standing.top w.standing.gone v from to w.kept w.steady)

  near : total / c.len-count.result ≤ w.mean + w.standing.top
  near = omega (arith, w.averaged, mean_is, ap mean_of c.push.ensures.kept, mean_near w.standing.top w.standing.gone v from to w.kept w.steady)

  steady : Kept c.args.standing.top c.args.standing.gone c.push.new.self
  steady = simp (c.requires.top, ← gone, c.push.ensures.kept) (kept_pushed w.standing.top w.standing.gone v w.kept w.steady from to)

pub overflow_sub-rise : goal.overflow_sub-rise
overflow_sub-rise c = rises c

pub invariant_of-self : goal.invariant_of-self
invariant_of-self c = record { summed = total_is c; averaged = mean_is c; steady = steady c }

pub overflow_cast-result : goal.overflow_cast-result
overflow_cast-result c = omega (arith, near (goal.at.overflow_cast-result c).After-push)

pub returns-clause-rise : goal.returns-clause-rise
returns-clause-rise c =
    let p = (goal.at.returns-clause-rise c).After-push in
    omega (arith, c.args.self.now.averaged, rises p, mean_is p)
