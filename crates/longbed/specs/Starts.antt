-- How a drive stands before the first call.
use Rattle.std.specs.Prelude.{true, cond}
use Rattle.drive.specs.Drives.{DriveMeans, landed, setting, with_trip}
use Rattle.longbed.specs.declared.order.Start.{Start}

-- at the place that the script says, and tripped where it says so
abbrev pub prepared : DriveMeans → Start → DriveMeans
prepared m s = let m₁ = landed m (setting s.place) in cond s.tripped (with_trip m₁ true) m₁
