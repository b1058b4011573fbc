-- The worked figures of the bed, in one table. Starting speed, acceleration and deceleration are 100 in each.
use Rattle.std.specs.Prelude.{List, [], ◌∷◌, pos, negsuc}
use Rattle.profile.specs.Plans.{PlanMeans}
use Rattle.figures.specs.Figures.{Figure, pair, no_pair, distance, advances, smooths, brakes, resumes}

-- two steps at 300
unfoldable pub two_steps : PlanMeans
two_steps = record { start = 100; accel = 100; decel = 100; rows = record { steps = 2; speed = 300 } ∷ [] }

unfoldable pub table : List Figure
table =
    pair (pos 12345) (pos 12) (pos 345)
    ∷ pair (negsuc 6) (pos 0) (negsuc 6)
    ∷ no_pair (pos 1) (negsuc 4) 5
    ∷ no_pair (pos 0) (pos 1000) 5
    ∷ pair (pos 999) (pos 0) (pos 999)
    ∷ distance 100 100 250 200
    ∷ advances two_steps (100 ∷ 200 ∷ 300 ∷ 300 ∷ 300 ∷ 300 ∷ 266 ∷ 167 ∷ 67 ∷ [])
    ∷ smooths two_steps 4 (25 ∷ 100 ∷ 250 ∷ 475 ∷ 750 ∷ 1050 ∷ 1341 ∷ 1599 ∷ 1799 ∷ 1924 ∷ 1983 ∷ 2000 ∷ [])
    ∷ brakes two_steps 3 (200 ∷ 100 ∷ []) 900
    ∷ resumes two_steps 3 2
    ∷ []
