-- Legs, and the steps of a tick along one.
use Rattle.std.proofs.Common.{◌≡◌, ℕ, ◌+◌, ◌-◌, ◌*◌, ◌/◌, ◌<◌, ◌≤◌, Bool, true, false, cond, ◌||◌, eqb, leb, List, [], ◌∷◌, map, length, ℤ, ◌+ℤ◌, nat_abs, Ok, Err, is_ok, MatchBool, refl, sym, ap, ◌∙◌, arith}
use Rattle.std.proofs.lemmas.Bool.{eqb-true, and_parts, leb-true}
use Rattle.std.proofs.lemmas.Int.{ints}
use Rattle.std.proofs.lemmas.List.{drop_more, drop_all}
use Rattle.drive.specs.Drives.{DriveMeans, landing, landed}
use Rattle.drive.specs.declared.fault.DriveFault.{DriveFault}
use Rattle.profile.specs.Plans.{PlanMeans, Lawful, plan_steps}
use Rattle.profile.specs.Profiles.{plan_ticks, up_div}
use Rattle.profile.specs.Rows.{steps_of, are_rows, is_row}
use Rattle.profile.specs.UpDivs.{up_div_pos}
use Rattle.profile.specs.declared.row.Row.{Row}
use Rattle.table.specs.TablePlans.{no_segment, row_at}
use Rattle.table.specs.Tables.{TableMeans}
use Rattle.axis.specs.Ticks.{takes_all, sent_to}
use Rattle.axis.specs.declared.order.DwellRun.{DwellRun}
use Rattle.law.proofs.Facts.{leg_of_row, legs_from}
use Rattle.law.specs.Law.{Takes}

-- a plan has at least one step
first_steps : (S : ℕ) (rs : List Row) → 1 ≤ length rs → are_rows S rs ≡ true → 0 < steps_of rs
unfolding are_rows steps_of
first_steps S [] l e = absurd (omega (arith, l))
first_steps S (r ∷ rs) l e = let p = and_parts (leb 1 r.steps) _ (and_parts (is_row S r) (are_rows S rs) e).0 in omega (arith, leb-true _ _ p.0)

pub some_steps : (plan : PlanMeans) → Lawful plan → 0 < plan_steps plan
some_steps plan l = first_steps plan.start plan.rows l.few.0 l.each

-- and takes at least one tick
pub plan_takes : (plan : PlanMeans) (lag : ℕ) → Lawful plan → 0 < plan_ticks plan lag
plan_takes plan lag l = omega (arith, up_div_pos (1000 * plan_steps plan) plan.start (omega (arith, some_steps plan l)) l.starts)

-- the legs from a row of the table on
pub legs_next :
    (tb : TableMeans) (run : DwellRun) (i : ℕ) → i < length tb.rows
    → legs_from tb run i ≡ leg_of_row tb.start run.rates (row_at tb i) ∷ legs_from tb run (i + 1)
legs_next tb run i l = ap (map (leg_of_row tb.start run.rates)) (drop_more tb.rows i no_segment l)

pub legs_over : (tb : TableMeans) (run : DwellRun) (i : ℕ) → length tb.rows ≤ i → legs_from tb run i ≡ []
legs_over tb run i l = ap (map (leg_of_row tb.start run.rates)) (drop_all i tb.rows l)

-- a drive that takes steps stands that far on
landed_ok : (t f q : Bool) (e₁ e₂ e₃ : DriveFault) (x : ℤ) → is_ok (cond t (Err e₁) (cond f (Err e₂) (cond q (Ok x) (Err e₃)))) ≡ true → cond t (Err e₁) (cond f (Err e₂) (cond q (Ok x) (Err e₃))) ≡ Ok x
landed_ok true f q e₁ e₂ e₃ x e = cc
landed_ok false true q e₁ e₂ e₃ x e = cc
landed_ok false false true e₁ e₂ e₃ x e = refl
landed_ok false false false e₁ e₂ e₃ x e = cc

no_step : (z n : ℤ) → nat_abs n ≡ 0 → z ≡ z +ℤ n
no_step z n e = grind (arith, ints)

module _ (g : ℕ) (d : DriveMeans) (n : ℤ) where
  pub sent_there : takes_all g d n ≡ true → (sent_to g d n).place ≡ d.place +ℤ n
  unfolding takes_all sent_to
  sent_there e = on (eqb (nat_abs n) 0) refl e
    where
      on : (b : Bool) → eqb (nat_abs n) 0 ≡ b → (b || is_ok (landing g d n)) ≡ true → (cond b d (landed d (landing g d n))).place ≡ d.place +ℤ n
      on true z h = no_step d.place n (eqb-true _ _ z)
      on false z h = ap (λ x. (landed d x).place) (landed_ok d.tripped _ _ _ _ _ _ h)

  pub takes_it : (to : ℤ) → takes_all g d n ≡ true → to ≡ d.place +ℤ n → Takes g d n to
  unfolding takes_all
  takes_it to e h = on (eqb (nat_abs n) 0) e
    where
      on : (b : Bool) → (b || is_ok (landing g d n)) ≡ true → MatchBool b (Unit {0}) (landing g d n ≡ Ok to)
      on true k = tt
      on false k = landed_ok d.tripped _ _ _ _ _ _ k ∙ ap Ok (sym h)

-- what a tick sends of its advance
pub few : (gone r top : ℕ) → r ≤ top → (gone + r) / 1000 - gone / 1000 ≤ up_div top 1000
few gone r top h = omega (arith, h)
