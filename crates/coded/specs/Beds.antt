-- The bed of an axis by small numbers.
use Rattle.std.specs.Prelude.{ℕ, ◌%◌, cond, nat_lt, ◌==◌, Some, None, Option}
use Rattle.bed.specs.declared.kind.BaseProfile.{BaseProfile}
use Rattle.bed.specs.declared.kind.BaseProfile.TheVariants.{Creep, Ramp}
use Rattle.bed.specs.declared.kind.BedKind.{BedKind}
use Rattle.bed.specs.declared.kind.DriveKind.{DriveKind}
use Rattle.bed.specs.declared.kind.DriveKind.TheVariants.{Pulse, Phase}
use Rattle.bed.specs.declared.kind.Smoothings.{Smoothings}
use Rattle.bed.specs.declared.kind.Smoothings.TheVariants.{Unsmoothed, Once, Twice}

-- drives: 0 pulse, 1 phase
abbrev pub drive_by : ℕ → Option DriveKind
drive_by n = cond (n == 0) (Some Pulse) (cond (n == 1) (Some Phase) None)

-- profiles: an even number stands on a creep, an odd one on a ramp
abbrev pub base_by : ℕ → BaseProfile
base_by n = cond (n % 2 == 0) Creep Ramp

-- 0 and 1 unsmoothed, 2 and 3 smoothed over the outer length, 4 and 5 over the inner one and that over the outer one
abbrev pub smoothings_by : ℕ → ℕ → ℕ → Smoothings
smoothings_by n outer inner = cond (nat_lt n 2) Unsmoothed (cond (nat_lt n 4) (Once outer) (Twice outer inner))

-- the bed of a drive's and a profile's number; past 1 and past 5 there is none
abbrev pub bed_by : ℕ → ℕ → ℕ → ℕ → Option BedKind
bed_by drive profile outer inner =
    elim (drive_by drive) [
      | None ↦ None
      | Some d ↦ cond (nat_lt 5 profile) None (Some (record { drive = d; profile = record { base = base_by profile; smoothings = smoothings_by profile outer inner } }))
    ]
