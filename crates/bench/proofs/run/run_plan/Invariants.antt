use Rattle.std.proofs.Common.{◌≡◌, ◌+◌, ◌≤◌, None}
use Rattle.profile.specs.Profiles.{fastest}
use Rattle.bench.proofs.run.run_plan.Given as goal

-- the plan stays, without a brake what is asked for stays, each tick that is counted is one less to go, and none is faster than the plan
abbrev pub invariant-loop-braked : goal.invariant-loop-braked
invariant-loop-braked g l = record {
  plan : (g.P.Profile.means l.profile).plan ≡ (g.P.Profile.means l.initial.profile).plan;
  asked : l.braked ≡ None → (g.P.Profile.means l.profile).asked ≡ (g.P.Profile.means l.initial.profile).asked;
  left : l.ticks + (g.P.Profile.means l.profile).left ≤ (g.P.Profile.means l.initial.profile).left;
  peak : l.peak ≤ fastest (g.P.Profile.means l.initial.profile).plan;
}

abbrev pub decreases-loop-braked : goal.decreases-loop-braked
decreases-loop-braked g l = (g.P.Profile.means l.profile).left
