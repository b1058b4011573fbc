use Rattle.std.proofs.Common.{refl}
use Rattle.profile.specs.Rows.{steps_of, top_of}
use Rattle.law.specs.Examples.{account_of, told_of, example_holds, examples}
use Rattle.law.specs.Moments.{view_of}
use Rattle.law.proofs.examples.example_count.Goals as goal

pub returns : goal.returns
unfolding steps_of top_of account_of told_of example_holds examples view_of
returns c = record { count = refl; hold = refl }
