-- What a phase drive means and keeps.
use Rattle.std.specs.Prelude.{ℕ, ℤ, slice_index}
use Rattle.drive.specs.Drives.{DriveMeans, landing, on_landing}
use Rattle.drive.specs.PhaseLaws.{turned_below}
use Rattle.drive.specs.Phases.{turned, coil_bytes}
use Rattle.drive.specs.Steppers.{stepper_means}
use Rattle.drive.specs.declared.phase.Phase.{Phase}
use Rattle.drive.specs.declared.stepper.Stepper.{Stepper}

abbrev pub phase_means : Stepper Phase → DriveMeans
phase_means = stepper_means

-- its phase, 0 to 7
abbrev pub phase_of : Stepper Phase → ℕ
phase_of d = d.output.number

-- a phase, moved by n modulo 8
abbrev pub turned_phase : Phase → ℤ → Phase
turned_phase p n = record { number = turned 8 p.number n; turns = turned_below p.number n }

-- the phase after an advance by n: moved by n modulo 8, unless the advance is refused
abbrev pub phase_after : Stepper Phase → ℤ → ℕ
phase_after d n = on_landing (landing 20 (phase_means d) n) (phase_of d) (turned 8 (phase_of d) n)

-- its coil byte: the entry at its phase
abbrev pub coils_of : Stepper Phase → ℕ
coils_of d = slice_index coil_bytes (phase_of d)
