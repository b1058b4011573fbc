-- A plan under constant acceleration, tick by tick: the rules' own definitions, computed. Over it the mean of the values that smoothing keeps.
use Rattle.std.specs.Prelude.{ℕ, zero, suc, ◌+◌, ◌*◌, Bool, true, false, ◌&&◌, List, [], ◌∷◌, ◌==◌, nat_lt}
use Rattle.profile.specs.Plans.{PlanMeans, plan_steps}
use Rattle.ramp.specs.Braking.{braking}
use Rattle.ramp.specs.Ramping.{next_advance}
use Rattle.smoothing.specs.Windows.{mean_of, pushed}

-- a plan under constant acceleration: the millisteps asked for and gone, and the last advance
pub record Motion : Type 0 where
  pub asked : ℕ
  pub gone : ℕ
  pub last : ℕ

unfoldable pub begun : PlanMeans → Motion
begun p = record { asked = 1000 * plan_steps p; gone = 0; last = 0 }

-- the next advance, 0 with nothing left
unfoldable pub advance_in : PlanMeans → Motion → ℕ
advance_in p m = elim (nat_lt m.gone m.asked) [ true ↦ next_advance p m.asked m.gone m.last | false ↦ 0 ]

unfoldable pub after_tick : PlanMeans → Motion → Motion
after_tick p m = let u : ℕ = advance_in p m in record { asked = m.asked; gone = m.gone + u; last = u }

unfoldable pub after_ticks : ℕ → PlanMeans → Motion → Motion
after_ticks zero p m = m
after_ticks (suc n) p m = after_ticks n p (after_tick p m)

unfoldable pub after_brake : PlanMeans → Motion → Motion
after_brake p m = record { asked = m.gone + braking p.start p.decel m.last; gone = m.gone; last = m.last }

-- the next ticks advance so, and then nothing is left
unfoldable pub goes_by : PlanMeans → Motion → List ℕ → Bool
goes_by p m [] = m.gone == m.asked
goes_by p m (u ∷ us) = nat_lt m.gone m.asked && (advance_in p m == u && goes_by p (after_tick p m) us)

-- over it, with the values ws kept, gone is so after each of the next ticks, and then it is all that was asked for
unfoldable pub smoothed_by : PlanMeans → Motion → List ℕ → List ℕ → Bool
smoothed_by p m ws [] = mean_of ws == m.asked
smoothed_by p m ws (g ∷ gs) =
    let m' : Motion = after_tick p m in
    let ws' : List ℕ = pushed m'.gone ws in
    nat_lt (mean_of ws) m.asked && (mean_of ws' == g && smoothed_by p m' ws' gs)
