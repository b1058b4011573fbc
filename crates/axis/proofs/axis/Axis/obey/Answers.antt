use Rattle.std.proofs.Common.{sym}
use Rattle.axis.specs.Axes.{AxisMeans}
use Rattle.axis.specs.Memories.{memory_means}
use Rattle.block.specs.Commands.{commanded}
use Rattle.axis.proofs.Readiness.{Sane, rows_enough, judged_ready}
use Rattle.axis.specs.Questions.{order_by}
use Rattle.axis.proofs.axis.Axis.obey.Goals as goal

pub carry-requires : goal.carry-requires
carry-requires g c =
    let a = c.args.self.now in
    let k = c.keep.new.self in
    let m : AxisMeans = record { drive = g.D.Drive.means a.drive; profile = g.P.Profile.means a.profile; memory = memory_means k } in
    let sane : Sane g.D.Drive.G m =
    record {
      reach = g.met.D.Drive.bounded.1;
      placed = g.met.D.Drive.placed a.drive;
      starts = k.table.starts;
      each = k.table.each;
      few = k.table.few;
      enough = rows_enough k.table;
    } in
    judged_ready g.D.Drive.G m sane c.rising-risen.result c.args.block c.in-Ok.order (sym {b = order_by g.D.Drive.G m c.args.block (commanded c.rising-risen.result)} c.in-Ok.ensures)
