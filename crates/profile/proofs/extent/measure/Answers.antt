use Rattle.std.proofs.Common.{arith}
use Rattle.std.proofs.lemmas.List.{at_drop_more, at_drop_all}
use Rattle.profile.specs.Rows.{steps_of, top_of}
use Rattle.profile.proofs.extent.measure.Goals as goal

pub overflow_add-steps : goal.overflow_add-steps
overflow_add-steps c = record { fits = omega (arith, c.loop-row.invariant.0, c.loop-row.auto.row-index-end) }

pub loop-row-preserved : goal.loop-row-preserved
unfolding steps_of top_of
loop-row-preserved c =
    let rows = c.args.rows.now in
    let i = c.loop-row.row-index in
    let s = at_drop_more steps_of rows i (record { steps = 0; speed = 0 }) c.loop-row-test.true in
    let t = at_drop_more top_of rows i (record { steps = 0; speed = 0 }) c.loop-row-test.true in
    (omega arith, omega arith, omega arith)

pub returns : goal.returns
unfolding steps_of top_of
returns c =
    let s = at_drop_all steps_of c.args.rows.now c.loop-row.row-index c.loop-row-test.false in
    let t = at_drop_all top_of c.args.rows.now c.loop-row.row-index c.loop-row-test.false in
    record { steps = omega arith; top = omega arith }
