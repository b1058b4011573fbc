-- What the status words say.
use Rattle.std.proofs.Common.{◌≡◌, true, ℤ, Bool, ap₂}
use Rattle.drive.specs.Positions.{is_position}
use Rattle.axis.proofs.Readings.{complete_read, position_read}
use Rattle.axis.specs.Axes.{AxisMeans}
use Rattle.law.proofs.Facts.{plain}
use Rattle.law.specs.Moments.{view_of}
use Rattle.law.specs.Runs.{seen_of}

pub view_is : (m : AxisMeans) → is_position m.drive.place ≡ true → view_of (seen_of m) ≡ plain m
unfolding view_of
view_is m e =
    ap₂ (λ (x : ℤ) (c : Bool). record { position = x; complete = c; drive = m.drive; profile = m.profile }) (position_read m.drive.place e) (complete_read m)
