-- Where steps in one direction lead.
use Rattle.std.proofs.Common.{◌≡◌, ℕ, ◌-◌, ◌≤◌, true, false, ℤ, pos, ◌+ℤ◌, nat_abs, Ok, arith}
use Rattle.std.proofs.lemmas.Int.{ints}
use Rattle.drive.specs.Directions.{signed, toward}
use Rattle.drive.specs.Drives.{DriveMeans, landing}
use Rattle.drive.specs.Positions.{is_position, distance}
use Rattle.drive.specs.declared.direction.Direction.{Direction}

pub nat_abs_signed : (way : Direction) (n : ℕ) → nat_abs (signed way n) ≡ n
nat_abs_signed way n = grind (arith, ints)

pub signed_zero : (way : Direction) → signed way 0 ≡ pos 0
signed_zero way = grind (arith, ints)

-- no steps lead nowhere
pub signed_stays : (way : Direction) (from : ℤ) → from +ℤ signed way 0 ≡ from
signed_stays way from = grind (arith, ints)

-- steps add up
pub signed_joins : (way : Direction) (from : ℤ) (a b : ℕ) → a ≤ b → (from +ℤ signed way a) +ℤ signed way (b - a) ≡ from +ℤ signed way b
signed_joins way from a b h = grind (arith, ints)

-- a place between two positions is one
pub between : (way : Direction) (from : ℤ) (n k : ℕ) → is_position from ≡ true → is_position (from +ℤ signed way n) ≡ true → k ≤ n → is_position (from +ℤ signed way k) ≡ true
between way from n k a b h = grind (arith, ints)

-- an advance that meets no reason to refuse it lands
pub lands : (g : ℕ) (m : DriveMeans) (n : ℤ) → m.tripped ≡ false → nat_abs n ≤ g → is_position (m.place +ℤ n) ≡ true → landing g m n ≡ Ok (m.place +ℤ n)
lands g m n u h q = grind (arith, ints)

-- the steps between two places, in the direction from one to the other, lead there
pub toward_reaches : (from to : ℤ) → from +ℤ signed (toward from to) (distance from to) ≡ to
toward_reaches from to = grind (arith, ints)

pub distance_near : (from to : ℤ) → is_position from ≡ true → is_position to ≡ true → distance from to ≤ 16777214
distance_near from to a b = grind (arith, ints)
