-- Every run from power-up is lawful.
use Rattle.std.proofs.Common.{◌≡◌, ℕ, true, List, [], ◌∷◌, refl, sym, ap, ◌∙◌, subst}
use Rattle.drive.specs.Positions.{is_position}
use Rattle.block.specs.Events.{event_of}
use Rattle.block.specs.Frames.{block_of}
use Rattle.profile.specs.Profiles.{ProfileMeans, Sound}
use Rattle.unrefused.proofs.Fitness.{drives_take_all}
use Rattle.unrefused.specs.Fits.{Fit, TakesAll}
use Rattle.axis.specs.Axes.{AxisMeans, powered_up}
use Rattle.axis.specs.Readings.{status_words}
use Rattle.axis.proofs.Readings.{position_decoded}
use Rattle.law.proofs.Blocks.{block_good}
use Rattle.law.proofs.Easings.{tick_good}
use Rattle.law.proofs.Facts.{plain, Trace, told, trace_of, Holds}
use Rattle.law.proofs.Goods.{Good, same_account, law_of}
use Rattle.law.proofs.Inputs.{setup_good, reading_good, event_good}
use Rattle.law.proofs.Views.{view_is}
use Rattle.law.specs.Accounts.{Account, first_account, account_after}
use Rattle.law.specs.Calls.{Call, SetUp, Block, Event, Tick, Reading, Answer}
use Rattle.law.specs.Law.{Law, LawfulRun}
use Rattle.law.specs.Moments.{Seen, Moment, view_of}
use Rattle.law.specs.Runs.{answer_to, axis_after, CallUses, seen_of, Step, Run, more, RunsAreLawful}

module _ (g : ℕ) (all : TakesAll g) where
  -- one call
  call_good :
      (m : AxisMeans) (t : Trace) (c : Call) (p : ProfileMeans) → Holds m t → Fit g m → is_position m.drive.place ≡ true → Sound p → CallUses g m c p
      → Good g (told m t) c (answer_to g m c p) (status_words (axis_after g m c p)) (axis_after g m c p) × Fit g (axis_after g m c p)
  call_good m t (SetUp n) p h f here s u = (setup_good g m t n _ h, all.set_up m n f)
  call_good m t (Block ws) p h f here s u = (block_good g m t ws p _ h f s u, all.block m (block_of ws) p here f u)
  call_good m t (Event n) p h f here s u = (event_good g m t n _ h, all.event m (event_of n) f)
  call_good m t Tick p h f here s u =
      let q = all.tick m p here f s u in
      (tick_good g m t m.memory.state p _ f refl f.underway h.rows h.moving u q.0 s, q.1)
  call_good m t (Reading ws) p h f here s u = (reading_good g m t ws h, f)

  -- the law of its moment, and what holds after it
  record After (a : Account) (o : Moment) (m' : AxisMeans) : Type 0 where
    law : Law g a o.call o.answer o.seen.words (view_of o.seen)
    besides : Trace
    account : account_after a o.call o.answer (view_of o.seen) ≡ told m' besides
    holds : Holds m' besides
    fit : Fit g m'

  shown : (a : Account) (c : Call) (r : Answer) (z : Seen) (m' : AxisMeans) → z ≡ seen_of m' → is_position m'.drive.place ≡ true → Good g a c r (status_words m') m' → Fit g m'
      → After a (record { call = c; answer = r; seen = z }) m'
  shown a c r z m' e here q f =
      let P : Seen → Type 0 = λ x. After a (record { call = c; answer = r; seen = x }) m' in
      let v : view_of (seen_of m') ≡ plain m' = view_is m' here in
      subst P (sym e)
      (record {
        law = subst (λ x. Law g a c r (status_words m') x) (sym v) (law_of f (position_decoded m'.drive.place here) q);
        besides = trace_of (account_after a c r (plain m'));
        account = ap (account_after a c r) v ∙ same_account q;
        holds = q.holds;
        fit = f;
      })

  step_good : (m : AxisMeans) (t : Trace) (o : Moment) (m' : AxisMeans) → Holds m t → Fit g m → is_position m.drive.place ≡ true → Step g m o m' → After (told m t) o m'
  step_good m t o m' h f here s =
      let q = call_good m t o.call m'.profile h f here s.sound s.uses in
      let back = sym s.after in
      let good = subst (λ x. Good g (told m t) o.call (answer_to g m o.call m'.profile) (status_words x) x) back q.0 in
      let fit = subst (λ x. Fit g x) back q.1 in
      subst (λ r. After (told m t) (record { call = o.call; answer = r; seen = o.seen }) m') (sym s.answers)
      (shown (told m t) o.call (answer_to g m o.call m'.profile) o.seen m' s.shows s.placed good fit)

  run_lawful : (m : AxisMeans) (t : Trace) (os : List Moment) (m' : AxisMeans) → Holds m t → Fit g m → is_position m.drive.place ≡ true → Run g m os m' → LawfulRun g (told m t) os
  run_lawful m t [] m' h f here r = tt
  run_lawful m t (o ∷ os) m' h f here (more {m₁ = m₁} s r) =
      let q = step_good m t o m₁ h f here s in
      (q.law, subst (λ a. LawfulRun g a os) (sym q.account) (run_lawful m₁ q.besides os m' q.holds q.fit s.placed r))

pub lawful : RunsAreLawful
lawful g l h d p os m here r =
    let t : Trace = trace_of (first_account d p) in
    let all = drives_take_all g l h in
    run_lawful g all (powered_up d p) t os m (record { rows = λ q. refl; moving = record { journey = tt; over = refl; slows = tt } }) (all.begins d p) here r
