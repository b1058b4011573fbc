use Rattle.std.proofs.Common.{refl}
use Rattle.profile.specs.Rows.{steps_of}
use Rattle.ramp.specs.Advances.{advance, greatest_to}
use Rattle.ramp.specs.Braking.{braking, braking_in}
use Rattle.ramp.specs.Speeds.{speed_at}
use Rattle.figures.specs.Motions.{begun, advance_in, after_tick, after_ticks, after_brake, goes_by, smoothed_by}
use Rattle.figures.specs.Figures.{same_number, same_pair, pair_answer, unplanned, resumed, figure_holds}
use Rattle.figures.specs.Table.{two_steps, table}
use Rattle.figures.proofs.worked.figure_count.Goals as goal

pub returns : goal.returns
unfolding steps_of advance greatest_to braking braking_in speed_at begun advance_in after_tick after_ticks after_brake goes_by smoothed_by same_number same_pair pair_answer unplanned resumed figure_holds two_steps table
returns c = record { count = refl; hold = refl }
