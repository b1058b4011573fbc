use Rattle.std.proofs.Common.{[], pos, take, get_or, sym, subst, subst₂}
use Rattle.std.proofs.lemmas.List.{take_more}
use Rattle.axis.specs.Axes.{meaning}
use Rattle.runs.proofs.Runs.{ran_none, ran_more}
use Rattle.runs.specs.Journals.{Ran}
use Rattle.runs.specs.declared.call.Call.TheVariants.{SetUp}
use Rattle.runs.proofs.operate.operate.Goals as goal

pub loop-call-init : goal.loop-call-init
loop-call-init g c =
    let G = g.met.D.Drive.bounded in
    let none = ran_none g.D.Drive.G (g.D.Drive.means c.args.drive) (g.P.Profile.means c.args.profile) G.0 G.1 (g.met.D.Drive.placed c.args.drive) in
    subst₂ (λ es m. Ran g.D.Drive.G (g.D.Drive.means c.args.drive) (g.P.Profile.means c.args.profile) [] es m)
    (sym c.power_up-operation.ensures.journal) (sym c.power_up-operation.ensures.axis) none

pub loop-call-preserved : goal.loop-call-preserved
loop-call-preserved g c =
    let n = c.loop-call.call-index in
    let cs = c.args.calls.now in
    let G = g.met.D.Drive.bounded in
    let more = ran_more g.D.Drive.G (g.D.Drive.means c.args.drive) (g.P.Profile.means c.args.profile) G.0 G.1 (g.met.D.Drive.placed c.args.drive)
    (take n cs) _ _ _ _ (get_or cs n (SetUp (pos 0))) c.loop-call.invariant c.in-Ok.ensures.made in
    subst (λ xs. Ran g.D.Drive.G (g.D.Drive.means c.args.drive) (g.P.Profile.means c.args.profile) xs c.make.new.self.journal.items (meaning g.D.Drive g.P.Profile c.make.new.self.axis))
    (sym (take_more cs n (SetUp (pos 0)) c.loop-call-test.true)) more
