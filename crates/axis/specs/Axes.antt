-- What an axis means: its drive, its profile, and what it keeps of its own.
use Rattle.drive.specs.Drives.{DriveMeans}
use Rattle.drive.specs.declared.traits.Drive as drive
use Rattle.profile.specs.Profiles.{ProfileMeans}
use Rattle.profile.specs.declared.traits.Profile as profile
use Rattle.axis.specs.Memories.{MemoryMeans, memory_means, first_memory}
use Rattle.axis.specs.declared.axis.Axis.{Axis}

pub record AxisMeans : Type 0 where
  pub drive : DriveMeans
  pub profile : ProfileMeans
  pub memory : MemoryMeans

-- what an axis means, by what its kinds of drive and of profile mean
abbrev pub meaning : {D P : Type 0} → drive.Ghosts D → profile.Ghosts P → Axis D P → AxisMeans
meaning d p a = record { drive = d.means a.drive; profile = p.means a.profile; memory = memory_means a.memory }

-- the same axis, but for what it keeps
abbrev pub with_memory : AxisMeans → MemoryMeans → AxisMeans
with_memory m k = record { drive = m.drive; profile = m.profile; memory = k }

-- at power-up, over a drive and a profile that mean these
abbrev pub powered_up : DriveMeans → ProfileMeans → AxisMeans
powered_up d p = record { drive = d; profile = p; memory = first_memory }
