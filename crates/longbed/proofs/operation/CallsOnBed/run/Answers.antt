use Rattle.std.proofs.Common.{subst}
use Rattle.axis.specs.Axes.{meaning}
use Rattle.runs.specs.Journals.{Ran}
use Rattle.longbed.proofs.operation.CallsOnBed.run.Goals as goal

pub returns-in-Ok : goal.returns-in-Ok
returns-in-Ok g c =
    let m = meaning g.D.Drive g.P.Profile c.in-Ok.operation.axis in
    let ran = subst (λ d. Ran g.D.Drive.G d (g.P.Profile.means c.args.profile) c.args.self.calls.now c.in-Ok.operation.journal.items m) c.prepare.ensures c.in-Ok.ensures in
    (m, ran, c.end.ensures.tells)
