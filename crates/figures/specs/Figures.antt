-- A worked figure says what the rules make of some numbers. Whether it holds is computed by the rules' own definitions: of pairs of words, of
-- braking, of constant acceleration, of smoothing, and of a Resume.
use Rattle.std.specs.Prelude.{ℕ, ◌/◌, Bool, false, ◌&&◌, ℤ, pos, Some, None, Option, ◌==◌, List, [], ◌∷◌, replicate}
use Rattle.axis.specs.Axes.{powered_up}
use Rattle.axis.specs.Questions.{is_pair, first_no}
use Rattle.axis.specs.Plans.{single_plan}
use Rattle.block.specs.Pairs.{decoded, encoded}
use Rattle.block.specs.Refusals.{answer_of}
use Rattle.block.specs.declared.pair.Pair.{Pair}
use Rattle.block.specs.declared.refusal.Refusal.TheVariants as refusal
use Rattle.drive.specs.Positions.{distance as steps_between}
use Rattle.figures.specs.Motions.{Motion, begun, after_ticks, after_brake, goes_by, smoothed_by}
use Rattle.profile.specs.Plans.{PlanMeans, plan_steps}
use Rattle.profile.specs.Profiles.{ProfileMeans}
use Rattle.ramp.specs.Braking.{braking}

-- two words say this number, and the number is these words
unfoldable pub same_number : ℤ → Option ℤ → Bool
same_number n None = false
same_number n (Some z) = steps_between n z == 0

unfoldable pub same_pair : Pair → Option Pair → Bool
same_pair p None = false
same_pair p (Some q) = steps_between p.first q.first == 0 && steps_between p.second q.second == 0

-- what two words that a command uses answer
unfoldable pub pair_answer : Pair → ℕ
pair_answer p = answer_of (first_no (record { yes = is_pair p; no = refusal.Pair } ∷ []) tt)

-- a profile without a plan, of no lag
unfoldable pub unplanned : ProfileMeans
unplanned = record { plan = None; asked = 0; gone = 0; left = 0; lag = 0 }

-- the plan of a Resume to the end of a plan that set out from 0 and was held once so much had gone
unfoldable pub resumed : PlanMeans → ℕ → PlanMeans
resumed p gone =
    single_plan (powered_up (record { place = pos (gone / 1000); tripped = false }) unplanned)
    (record { target = pos (plan_steps p); speed = 300; rates = record { accel = p.accel; decel = p.decel } })

pub data Figure : Type 0 where
  -- a number and its pair of words
  pair : (n first second : ℤ) → Figure
  -- two words that are no pair, and the number that refuses them
  no_pair : (first second : ℤ) (number : ℕ) → Figure
  -- the braking distance of a speed
  distance : (start decel speed millisteps : ℕ) → Figure
  -- the advances of a plan, from its begin to its end
  advances : PlanMeans → List ℕ → Figure
  -- what has gone after each tick of a plan that is smoothed over so many
  smooths : PlanMeans → (length : ℕ) → List ℕ → Figure
  -- the advances of a plan that is braked after so many ticks, from there on, and all that has then gone
  brakes : PlanMeans → (ticks : ℕ) → List ℕ → (millisteps : ℕ) → Figure
  -- the steps of a Resume, where the plan is held after so many ticks
  resumes : PlanMeans → (ticks : ℕ) → (steps : ℕ) → Figure

unfoldable pub figure_holds : Figure → Bool
figure_holds (pair n a b) = let p : Pair = record { first = a; second = b } in same_pair p (encoded n) && same_number n (decoded p)
figure_holds (no_pair a b k) = pair_answer (record { first = a; second = b }) == k
figure_holds (distance S D u b) = braking S D u == b
figure_holds (advances p us) = goes_by p (begun p) us
figure_holds (smooths p W gs) = smoothed_by p (begun p) (replicate W 0) gs
figure_holds (brakes p n us g) = let m : Motion = after_brake p (after_ticks n p (begun p)) in (m.asked == g) && goes_by p m us
figure_holds (resumes p n k) = plan_steps (resumed p (after_brake p (after_ticks n p (begun p))).asked) == k
