-- What a drive that moves an output means and keeps.
use Rattle.std.specs.Prelude.{ℕ, ℤ}
use Rattle.drive.specs.Drives.{DriveMeans, landing, on_landing}
use Rattle.drive.specs.declared.stepper.Stepper.{Stepper}

abbrev pub stepper_means : {O : Type 0} → Stepper O → DriveMeans
stepper_means d = record { place = d.place; tripped = d.tripped }

abbrev pub output_of : {O : Type 0} → Stepper O → O
output_of d = d.output

-- the output after an advance by n over a drive that goes at most g steps at once: moved by n, unless the advance is refused
abbrev pub output_after : {O : Type 0} → ℕ → (O → ℤ → O) → Stepper O → ℤ → O
output_after g moved d n = on_landing (landing g (stepper_means d) n) (output_of d) (moved (output_of d) n)
