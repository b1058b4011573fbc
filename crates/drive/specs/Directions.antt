-- The two directions: clockwise is positive.
use Rattle.std.specs.Prelude.{ℕ, zero, suc, cond, ℤ, pos, negsuc, neg_ℤ, int_lt}
use Rattle.drive.specs.declared.direction.Direction.{Direction}
use Rattle.drive.specs.declared.direction.Direction.TheVariants.{Cw, Ccw}

-- so many steps in a direction
abbrev pub signed : Direction → ℕ → ℤ
signed Cw n = pos n
signed Ccw n = neg_ℤ (pos n)

-- the direction of a number's sign; of 0 the direction that was so before
abbrev pub last_direction : Direction → ℤ → Direction
last_direction d (pos zero) = d
last_direction d (pos (suc n)) = Cw
last_direction d (negsuc n) = Ccw

-- the direction from one place to another; clockwise where they are the same
abbrev pub toward : ℤ → ℤ → Direction
toward from to = cond (int_lt to from) Ccw Cw
