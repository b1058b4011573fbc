-- What a drive answers and is after n steps were brought to it. They are one advance, which takes all of them or none; where n is
-- 0 the drive is not called.
use Rattle.std.specs.Prelude.{◌≡◌, ℕ, true, false, ℤ, pos, is_ok, Ok, Result, ◌≢◌}
use Rattle.drive.specs.Drives.{DriveMeans, Moved, landing}
use Rattle.drive.specs.declared.fault.DriveFault.{DriveFault}

-- Over any kind of drive, by what it means, what one advance makes of it, and the most steps g that it goes at once. Where n is not 0 and is
-- accepted, the drive is after it what exactly one advance by n made of it: nothing else is known to lead there.
pub record Delivered {D : Type 0} (means : D → DriveMeans) (Advanced : D → ℤ → D → Type 0) (g : ℕ) (n : ℤ) (before : D) (r : Result ℤ DriveFault) (after : D) : Type 0 where
  pub none : n ≡ pos 0 → (r ≡ Ok (pos 0)) × (after ≡ before)
  pub some : (n ≢ pos 0) → Moved (means before) (landing g (means before) n) n r (means after)
  pub once : (n ≢ pos 0) → is_ok r ≡ true → Advanced before n after
  pub refused : is_ok r ≡ false → after ≡ before
