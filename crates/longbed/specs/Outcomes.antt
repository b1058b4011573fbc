-- What the calls of a script come to.
use Rattle.std.specs.Prelude.{◌≡◌, ℕ, List, map, flat_map, take, Ok, Err, Result}
use Rattle.drive.specs.Drives.{DriveMeans, at_rest}
use Rattle.profile.specs.Profiles.{ProfileMeans}
use Rattle.axis.specs.Axes.{AxisMeans}
use Rattle.beds.specs.Choices.{Fresh, lag_of, reach_of}
use Rattle.runs.specs.Journals.{call_means, Ran}
use Rattle.runs.specs.declared.call.Call.{Call}
use Rattle.longbed.specs.Callings.{entry_calls}
use Rattle.longbed.specs.Starts.{prepared}
use Rattle.longbed.specs.declared.order.Start.{Start}
use Rattle.longbed.specs.declared.outcome.End.{End}
use Rattle.longbed.specs.declared.outcome.Finished.{Finished}
use Rattle.longbed.specs.declared.outcome.Interrupted.{Interrupted}
use Rattle.longbed.specs.declared.read.Script.{Script}

-- what is told at the end of an axis that means m; the coil byte is the drive's own
pub record Tells (m : AxisMeans) (e : End) : Type 0 where
  pub position : e.position ≡ m.drive.place
  pub place : e.place ≡ m.drive.place
  pub flags : e.flags ≡ m.memory.flags

-- Calls of an axis over a drive and a profile that mean these: their run with its journal, and how the axis stands after it. Where there was
-- no memory for all, it is a run of the first of them.
abbrev pub Comes : ℕ → DriveMeans → ProfileMeans → List Call → Result Finished Interrupted → Type 0
Comes g d p cs (Ok f) = (m : AxisMeans) × Ran g d p cs f.journal.items m × Tells m f.end
Comes g d p cs (Err i) = (n : ℕ) × (m : AxisMeans) × Ran g d p (take n cs) i.journal.items m

-- over a new drive and a new profile of the bed's kinds, with the drive standing as the script says
abbrev pub MadeOn : Start → List Call → Result Finished Interrupted → Type 0
MadeOn s cs r = (p : ProfileMeans) × Fresh (lag_of s.bed.profile) p × Comes (reach_of s.bed.drive) (prepared at_rest s) p cs r

-- the calls are those of the script's lines, in their order
pub record Follows (s : Script) (r : Result Finished Interrupted) : Type 0 where
  pub calls : List Call
  pub listed : map call_means calls ≡ flat_map entry_calls s.entries.items
  pub made : MadeOn s.start calls r
