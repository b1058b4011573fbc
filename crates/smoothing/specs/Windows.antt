-- The last W values of a number that rises, newest first. A new value goes in front, and the oldest goes out. Their mean is
-- their sum ÷ W, rounded down.
use Rattle.std.specs.Prelude.{◌≡◌, ℕ, ◌+◌, ◌/◌, ◌≤◌, cond, List, [], ◌∷◌, ◌++◌, reverse, length, sum, take, drop, ◌==◌}

-- their mean
abbrev pub mean_of : List ℕ → ℕ
mean_of ws = sum ws / length ws

-- as many as before, with v in front
abbrev pub pushed : ℕ → List ℕ → List ℕ
pushed v ws = take (length ws) (v ∷ ws)

-- the oldest, or v where there is none
abbrev pub oldest : ℕ → List ℕ → ℕ
oldest v [] = v
oldest v (x ∷ xs) = oldest x xs

-- how many there are from the first that is not v on
abbrev pub from_other : ℕ → List ℕ → ℕ
from_other v [] = 0
from_other v (x ∷ xs) = cond (v == x) (from_other v xs) (1 + length xs)

-- the ticks until all are equal, where each keeps the newest again: as many as there are from the first that differs from it on
abbrev pub ticks_to_equal : List ℕ → ℕ
ticks_to_equal [] = 0
ticks_to_equal (x ∷ xs) = from_other x xs

-- the values of a ring whose oldest stands at i
abbrev pub newest_first : ℕ → List ℕ → List ℕ
newest_first i ring = reverse (drop i ring ++ take i ring)

-- what every window keeps to: going back from v, no value is above the one after it, or below it by more than t
abbrev pub Steady : ℕ → ℕ → List ℕ → Type 0
Steady t v [] = Unit {0}
Steady t v (x ∷ xs) = ((x ≤ v) × (v ≤ x + t)) × Steady t x xs

-- v is the newest, and each rose by at most t
abbrev pub Kept : ℕ → ℕ → List ℕ → Type 0
Kept t v [] = ⊥
Kept t v (x ∷ xs) = (x ≡ v) × Steady t x xs
