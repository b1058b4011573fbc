-- How far the latest move has come. A move travels legs, one after the other: a single move and a blend have one, a dwell move has
-- one for each row, and a pause between two.
use Rattle.std.specs.Prelude.{ℕ, suc, ◌+◌, ◌-◌, ◌/◌, Bool, true, false, cond, List, [], ◌∷◌, ℤ, pos, ◌+ℤ◌, nat_lt}
use Rattle.drive.specs.Directions.{signed}
use Rattle.drive.specs.declared.direction.Direction.{Direction}
use Rattle.profile.specs.Plans.{PlanMeans, plan_steps}
use Rattle.profile.specs.Profiles.{plan_ticks}

-- a plan that is travelled in one direction
pub record Leg : Type 0 where
  pub way : Direction
  pub plan : PlanMeans

-- the legs of a move, in order, and the ticks of the pause between two
pub record Route : Type 0 where
  pub legs : List Leg
  pub pause : ℕ

-- so far along a leg from x, when so many millisteps have gone
abbrev pub along : ℤ → Leg → ℕ → ℤ
along x l gone = x +ℤ signed l.way (gone / 1000)

-- where a leg from x ends
abbrev pub end_of_leg : ℤ → Leg → ℤ
end_of_leg x l = x +ℤ signed l.way (plan_steps l.plan)

-- the ticks allowed to legs that each come after a pause, over a lag
abbrev pub later_ticks : ℕ → ℕ → List Leg → ℕ
later_ticks lag pause [] = 0
later_ticks lag pause (l ∷ ls) = pause + (plan_ticks l.plan lag + later_ticks lag pause ls)

-- the ticks allowed to a move: those of its plans, and its pauses
abbrev pub move_ticks : ℕ → ℕ → List Leg → ℕ
move_ticks lag pause [] = 0
move_ticks lag pause (l ∷ ls) = plan_ticks l.plan lag + later_ticks lag pause ls

-- where the latest move is
pub data Journey : Type 0 where
  -- nothing to travel: before the first move, after its end, after a full stop, a preset, or a hold in a pause
  none : Journey
  -- on a leg that set out from a place; the legs after it, and the pause before each of them
  on : (from : ℤ) → Leg → List Leg → (pause : ℕ) → Journey
  -- in a pause at a place: the ticks waited, the next leg, the legs after it and the pause
  pausing : (waited : ℕ) → (at : ℤ) → Leg → List Leg → (pause : ℕ) → Journey
  -- after a hold on a leg that set out from a place: coming to rest, or at rest
  held : (from : ℤ) → Leg → Journey

-- a move sets out
abbrev pub begun_journey : ℤ → List Leg → ℕ → Journey
begun_journey x [] pause = none
begun_journey x (l ∷ ls) pause = on x l ls pause

-- on a leg that is over or goes on: after it comes the pause before the next, and after the last leg nothing
abbrev pub on_leg : Bool → ℤ → Leg → List Leg → ℕ → Journey
on_leg false x l ls w = on x l ls w
on_leg true x l [] w = none
on_leg true x l (n ∷ ls) w = pausing 0 (end_of_leg x l) n ls w

-- a tick after which the profile has gone all that is asked for, or has not; a pause has exactly its ticks, and the tick after them is
-- the first of the next leg
abbrev pub ticked : Bool → Journey → Journey
ticked over none = none
ticked over (on x l ls w) = on_leg over x l ls w
ticked over (pausing u x l ls w) = cond (nat_lt u w) (pausing (suc u) x l ls w) (on_leg over x l ls w)
ticked over (held x l) = held x l

-- after a hold: a leg is held, and in a pause nothing is in motion, so the journey ends
abbrev pub braked : Journey → Journey
braked none = none
braked (on x l ls w) = held x l
braked (pausing u x l ls w) = none
braked (held x l) = held x l

-- the whole steps of gone after a tick that were not sent before it, with the sign of the leg's direction
abbrev pub fresh : Leg → ℕ → ℕ → ℤ
fresh l before after = signed l.way (after / 1000 - before / 1000)

-- the steps that a tick makes due, by the journey before it and what has gone before it and after it; on the first tick of a leg
-- nothing has gone before
abbrev pub due_in : Journey → ℕ → ℕ → ℤ
due_in none before after = pos 0
due_in (on x l ls w) before after = fresh l before after
due_in (pausing u x l ls w) before after = cond (nat_lt u w) (pos 0) (fresh l 0 after)
due_in (held x l) before after = fresh l before after
