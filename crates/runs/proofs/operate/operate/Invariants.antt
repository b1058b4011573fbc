use Rattle.std.proofs.Common.{take}
use Rattle.axis.specs.Axes.{meaning}
use Rattle.runs.specs.Journals.{Ran}
use Rattle.runs.proofs.operate.operate.Given as goal

abbrev pub invariant-loop-call : goal.invariant-loop-call
invariant-loop-call g l = Ran g.D.Drive.G (g.D.Drive.means l.fn.drive) (g.P.Profile.means l.fn.profile) (take l.call-index l.calls) l.operation.journal.items (meaning g.D.Drive g.P.Profile l.operation.axis)
