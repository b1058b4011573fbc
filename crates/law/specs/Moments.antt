-- A moment of a run: a call, its answer, and what was to be seen after it.
use Rattle.std.specs.Prelude.{Bool, List, ℤ}
use Rattle.drive.specs.Drives.{DriveMeans}
use Rattle.profile.specs.Profiles.{ProfileMeans}
use Rattle.block.specs.Frames.{word_at, bits_at}
use Rattle.block.specs.Pairs.{joined}
use Rattle.block.specs.Words.{is_set}
use Rattle.law.specs.Calls.{Call, Answer}

-- the ten status words, the drive and the profile
pub record Seen : Type 0 where
  pub words : List ℤ
  pub drive : DriveMeans
  pub profile : ProfileMeans

-- a call, its answer, and what was to be seen after it
pub record Moment : Type 0 where
  pub call : Call
  pub answer : Answer
  pub seen : Seen

-- what the law speaks of: the position and Move_Complete, as the status words say them, the drive and the profile
pub record View : Type 0 where
  pub position : ℤ
  pub complete : Bool
  pub drive : DriveMeans
  pub profile : ProfileMeans

-- the position is the pair in words 2 and 3, and Move_Complete bit 7 of word 0
unfoldable pub view_of : Seen → View
view_of s = record { position = joined (word_at s.words 2) (word_at s.words 3); complete = is_set 7 (bits_at s.words 0); drive = s.drive; profile = s.profile }
