-- Smoothing over a profile: gone is the mean of the last W values of gone below. The plan and asked are those below, and the lag
-- is W − 1 more. Left is left below + W − 1, or, once nothing is left below, the ticks until all kept values are equal.
use Rattle.std.specs.Prelude.{ℕ, ◌+◌, ◌-◌, cond, List, length, ◌==◌}
use Rattle.profile.specs.Profiles.{ProfileMeans}
use Rattle.profile.specs.declared.traits.Profile.{Ghosts}
use Rattle.smoothing.specs.Windows.{mean_of, ticks_to_equal}
use Rattle.smoothing.specs.declared.smoothed.Smoothed.{Smoothed}

-- the ticks left, with so many left below; the laws of a profile leave it no other value, since left falls by 1 a tick and is 0
-- exactly when gone is asked
abbrev pub left_over : ℕ → List ℕ → ℕ
left_over left ws = cond (left == 0) (ticks_to_equal ws) (left + (length ws - 1))

-- what smoothing means over a profile that means m, with the values ws kept
abbrev pub smoothing : ProfileMeans → List ℕ → ProfileMeans
smoothing m ws =
    record {
      plan = m.plan;
      asked = m.asked;
      gone = mean_of ws;
      left = left_over m.left ws;
      lag = m.lag + (length ws - 1);
    }

-- the values kept, newest first
abbrev pub kept_over : {P : Type 0} {G : Ghosts P} → Smoothed P G → List ℕ
kept_over s = s.window.kept

-- W
abbrev pub length_over : {P : Type 0} {G : Ghosts P} → Smoothed P G → ℕ
length_over s = length (kept_over s)

abbrev pub smooth_means : {P : Type 0} {G : Ghosts P} → Smoothed P G → ProfileMeans
smooth_means {G = G} s = smoothing (G.means s.below) (kept_over s)
