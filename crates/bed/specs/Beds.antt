-- The bed that the words of a line name.
use Rattle.std.specs.Prelude.{ℕ, cond, List, [], ◌∷◌, Ok, Err, codes, Result, drop}
use Rattle.std.specs.Str.{bytes_eq}
use Rattle.bed.specs.Words.{natural, first_as, next, making, complete}
use Rattle.bed.specs.declared.fault.LineFault.{LineFault}
use Rattle.bed.specs.declared.fault.LineFault.TheVariants.{UnknownDrive, UnknownProfile, MissingWord}
use Rattle.bed.specs.declared.kind.BaseProfile.{BaseProfile}
use Rattle.bed.specs.declared.kind.BaseProfile.TheVariants.{Creep, Ramp}
use Rattle.bed.specs.declared.kind.BedKind.{BedKind}
use Rattle.bed.specs.declared.kind.DriveKind.{DriveKind}
use Rattle.bed.specs.declared.kind.DriveKind.TheVariants.{Pulse, Phase}
use Rattle.bed.specs.declared.kind.Part.{Part}
use Rattle.bed.specs.declared.kind.Part.TheVariants.{Base, Smoothing}
use Rattle.bed.specs.declared.kind.ProfileKind.{ProfileKind}
use Rattle.bed.specs.declared.kind.Smoothings.{Smoothings}
use Rattle.bed.specs.declared.kind.Smoothings.TheVariants.{Unsmoothed, Once, Twice}

abbrev pub kind_of : Smoothings → BaseProfile → ProfileKind
kind_of smoothings base = record { base = base; smoothings = smoothings }

-- the drive that a word names
abbrev pub drive_word : List ℕ → Result DriveKind LineFault
drive_word w = cond (bytes_eq w (codes "pulse")) (Ok Pulse) (cond (bytes_eq w (codes "phase")) (Ok Phase) (Err UnknownDrive))

-- the profile that a word names, which stands on no other
abbrev pub base_word : List ℕ → Result BaseProfile LineFault
base_word w = cond (bytes_eq w (codes "creep")) (Ok Creep) (cond (bytes_eq w (codes "ramp")) (Ok Ramp) (Err UnknownProfile))

-- what the words of a profile begin with: `smooth` and a length, or a profile that stands on no other
abbrev pub part_of : List (List ℕ) → Result Part LineFault
part_of [] = Err MissingWord
part_of (w ∷ ws) = cond (bytes_eq w (codes "smooth")) (making Smoothing (first_as natural ws)) (making Base (base_word w))

-- the words after that
abbrev pub after_part : Part → List (List ℕ) → List (List ℕ)
after_part (Base base) ws = drop 1 ws
after_part (Smoothing length) ws = drop 1 (drop 1 ws)

-- what the words of a profile begin with, and then what is made of it and the words after it
abbrev pub next_part : List (List ℕ) → (Part → List (List ℕ) → Result ProfileKind LineFault) → Result ProfileKind LineFault
next_part ws go = elim (part_of ws) [ Ok part ↦ go part (after_part part ws) | Err e ↦ Err e ]

-- the profile after one `smooth` and its length; after two there is no third
abbrev pub smooth_with : ℕ → Part → List (List ℕ) → Result ProfileKind LineFault
smooth_with outer (Base base) ws = complete (kind_of (Once outer) base) ws
smooth_with outer (Smoothing inner) ws = next base_word ws (λ base. complete (kind_of (Twice outer inner) base))

-- the profile that the words say
abbrev pub profile_with : Part → List (List ℕ) → Result ProfileKind LineFault
profile_with (Base base) ws = complete (kind_of Unsmoothed base) ws
profile_with (Smoothing outer) ws = next_part ws (smooth_with outer)

-- all of it, from the first word on
abbrev pub profile_of : List (List ℕ) → Result ProfileKind LineFault
profile_of ws = next_part ws profile_with

abbrev pub bed_with : DriveKind → ProfileKind → BedKind
bed_with drive profile = record { drive = drive; profile = profile }

-- the bed that the words name: its drive, and then its profile
abbrev pub bed_of : List (List ℕ) → Result BedKind LineFault
bed_of ws = next drive_word ws (λ drive ws₁. making (bed_with drive) (profile_of ws₁))
