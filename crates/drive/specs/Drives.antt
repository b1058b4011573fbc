-- What a drive means, and what its calls make of that.
use Rattle.std.specs.Prelude.{◌≡◌, ℕ, Bool, false, cond, ℤ, pos, ◌+ℤ◌, Ok, Err, Result, nat_lt, unsigned_abs}
use Rattle.drive.specs.Positions.{is_position}
use Rattle.drive.specs.declared.fault.DriveFault.{DriveFault}
use Rattle.drive.specs.declared.fault.DriveFault.TheVariants.{Tripped, TooFar, NoPosition}

-- where a drive stands, and whether it is tripped
pub record DriveMeans : Type 0 where
  pub place : ℤ
  pub tripped : Bool

-- at place 0, not tripped
abbrev pub at_rest : DriveMeans
at_rest = record { place = pos 0; tripped = false }

-- Where an advance by n lands, over a drive that means m and goes at most g steps at once: refused when the drive
-- is tripped, |n| exceeds g, or place + n is no position, in this order.
abbrev pub landing : ℕ → DriveMeans → ℤ → Result ℤ DriveFault
landing g m n = cond m.tripped (Err Tripped) (cond (nat_lt g (unsigned_abs n)) (Err TooFar) (cond (is_position (m.place +ℤ n)) (Ok (m.place +ℤ n)) (Err NoPosition)))

-- where a set to p lands: any position does, any other number is refused
abbrev pub setting : ℤ → Result ℤ DriveFault
setting p = cond (is_position p) (Ok p) (Err NoPosition)

-- what a drive that means m means after a call that lands so: only its place changes, and a refusal changes nothing
abbrev pub landed : DriveMeans → Result ℤ DriveFault → DriveMeans
landed m (Ok p) = record { place = p; tripped = m.tripped }
landed m (Err e) = m

-- what a call that lands so answers: x, or the cause of its refusal
abbrev pub answering : {X : Type 0} → Result ℤ DriveFault → X → Result X DriveFault
answering (Ok p) x = Ok x
answering (Err e) x = Err e

-- a call of a drive that means m, which lands so and is to answer x: what it answers, and what the drive means after it
pub record Moved {X : Type 0} (m : DriveMeans) (to : Result ℤ DriveFault) (x : X) (r : Result X DriveFault) (m' : DriveMeans) : Type 0 where
  pub answer : r ≡ answering to x
  pub after : m' ≡ landed m to

-- only whether it is tripped changes
abbrev pub with_trip : DriveMeans → Bool → DriveMeans
with_trip m b = record { place = m.place; tripped = b }

-- what a kind keeps beyond its meaning: the new where a call lands, the old where it is refused
abbrev pub on_landing : {K : Type 0} → Result ℤ DriveFault → K → K → K
on_landing (Ok p) old new = new
on_landing (Err e) old new = old
