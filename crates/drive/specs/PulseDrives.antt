-- What a pulse drive means and keeps.
use Rattle.std.specs.Prelude.{ℤ}
use Rattle.drive.specs.Directions.{last_direction}
use Rattle.drive.specs.Drives.{DriveMeans}
use Rattle.drive.specs.Steppers.{stepper_means, output_of, output_after}
use Rattle.drive.specs.declared.direction.Direction.{Direction}
use Rattle.drive.specs.declared.stepper.Stepper.{Stepper}

abbrev pub pulse_means : Stepper Direction → DriveMeans
pulse_means = stepper_means

-- its direction line
abbrev pub line_of : Stepper Direction → Direction
line_of = output_of

-- the direction line after an advance by n: the sign of the last n that was not 0, unless the advance is refused
abbrev pub line_after : Stepper Direction → ℤ → Direction
line_after = output_after 200 last_direction
