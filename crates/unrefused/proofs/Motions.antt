-- A tick in motion, over a drive and a profile that stand where they stand.
use Rattle.std.proofs.Common.{◌≡◌, ℕ, ◌+◌, ◌-◌, ◌*◌, ◌/◌, ◌≤◌, true, false, eqb, ◌+ℤ◌, nat_abs, is_ok, Ok, sym, ap, ◌∙◌, ⊎_elim, arith}
use Rattle.std.proofs.lemmas.Bool.{cases_Bool, eqb-true, or_right, cond-true, cond-false}
use Rattle.drive.proofs.Landings.{nat_abs_signed, signed_stays, signed_joins, between, lands}
use Rattle.drive.specs.Directions.{signed}
use Rattle.drive.specs.Drives.{DriveMeans, landing, landed}
use Rattle.drive.specs.Positions.{is_position}
use Rattle.drive.specs.declared.direction.Direction.{Direction}
use Rattle.profile.specs.Plans.{PlanMeans, plan_steps, plan_top}
use Rattle.profile.specs.Profiles.{ProfileMeans, Sound, Begun, Ticked, Braked, fastest}
use Rattle.unrefused.specs.Fits.{InMotion, end_of}
use Rattle.axis.specs.Ticks.{due, takes_all, sent_to}

-- the profile before the tick, which answers r, and after it
module _ (g : ℕ) (way : Direction) (d : DriveMeans) (p p' : ProfileMeans) (r : ℕ) (here : is_position d.place ≡ true) (moves : InMotion g way d p) (ticked : Ticked p r p') (sound : Sound p') where
  grows : p'.gone ≡ p.gone + r
  grows = ap (λ x. x.gone) ticked.after

  same_asked : p'.asked ≡ p.asked
  same_asked = ap (λ x. x.asked) ticked.after

  abbrev steps : ℕ
  steps = p'.gone / 1000 - p.gone / 1000

  abbrev left : ℕ
  left = p.asked / 1000 - p.gone / 1000

  few : steps ≤ g
  few = omega (arith, grows, ticked.within, moves.slow)

  short : steps ≤ left
  short = omega (arith, same_asked, sound.reached)

  arrives : is_position (d.place +ℤ signed way steps) ≡ true
  arrives = between way d.place left steps here moves.ends short

  goes : landing g d (signed way steps) ≡ Ok (d.place +ℤ signed way steps)
  goes =
      let k : nat_abs (signed way steps) ≤ g = rw (nat_abs_signed way steps) few in
      lands g d (signed way steps) moves.untripped k arrives

  -- the drive takes the steps that are due
  pub takes : takes_all g d (due way p.gone p') ≡ true
  unfolding takes_all
  takes = or_right (eqb (nat_abs (signed way steps)) 0) _ (ap is_ok goes)

  -- and stands that far on
  sent : sent_to g d (signed way steps) ≡ record { place = d.place +ℤ signed way steps; tripped = d.tripped }
  unfolding sent_to
  sent =
      ⊎_elim
      (λ (e : eqb (nat_abs (signed way steps)) 0 ≡ true).
      let z : steps ≡ 0 = sym (nat_abs_signed way steps) ∙ eqb-true _ _ e in
      cond-true _ d (landed d (landing g d (signed way steps))) e
      ∙ ap (λ x. record { place = x; tripped = d.tripped }) (sym (ap (λ n. d.place +ℤ signed way n) z ∙ signed_stays way d.place)))
      (λ (e : eqb (nat_abs (signed way steps)) 0 ≡ false).
      cond-false _ d (landed d (landing g d (signed way steps))) e ∙ ap (landed d) goes)
      (cases_Bool (eqb (nat_abs (signed way steps)) 0))

  -- so the plan ends where it did
  pub same_end : end_of way (sent_to g d (due way p.gone p')) p' ≡ end_of way d p
  same_end =
      let e : p'.asked / 1000 - p'.gone / 1000 ≡ left - steps = omega (arith, same_asked, grows, sound.reached) in
      ap (λ x. x.place +ℤ signed way (p'.asked / 1000 - p'.gone / 1000)) sent
      ∙ (ap (λ n. (d.place +ℤ signed way steps) +ℤ signed way n) e ∙ signed_joins way d.place steps left short)

  pub moves_on : InMotion g way (sent_to g d (due way p.gone p')) p'
  moves_on =
      record {
        untripped = ap (λ x. x.tripped) sent ∙ moves.untripped;
        slow = omega (arith, ap (λ x. fastest x.plan) ticked.after, moves.slow);
        ends = ap is_position same_end ∙ moves.ends;
      }

-- with nothing left it ends where the drive stands
pub at_end : (way : Direction) (d : DriveMeans) (p : ProfileMeans) → Sound p → p.left ≡ 0 → end_of way d p ≡ d.place
at_end way d p sound none =
    let e : p.asked / 1000 - p.gone / 1000 ≡ 0 = omega (arith, sound.done none) in
    ap (λ n. d.place +ℤ signed way n) e ∙ signed_stays way d.place

-- a plan that has begun
pub begins :
    (g : ℕ) (way : Direction) (d : DriveMeans) (plan : PlanMeans) (was p : ProfileMeans) → Begun was plan p → d.tripped ≡ false
    → plan_top plan ≤ 1000 * g → is_position (d.place +ℤ signed way (plan_steps plan)) ≡ true → InMotion g way d p
begins g way d plan was p b u slow ends =
    let e : p.asked / 1000 - p.gone / 1000 ≡ plan_steps plan = omega (arith, ap (λ x. x.asked) b.after, ap (λ x. x.gone) b.after) in
    record {
      untripped = u;
      slow = omega (arith, ap (λ x. fastest x.plan) b.after, slow);
      ends = ap (λ n. is_position (d.place +ℤ signed way n)) e ∙ ends;
    }

-- where it ends
pub begun_end :
    (way : Direction) (d : DriveMeans) (plan : PlanMeans) (was p : ProfileMeans) → Begun was plan p
    → end_of way d p ≡ d.place +ℤ signed way (plan_steps plan)
begun_end way d plan was p b =
    let e : p.asked / 1000 - p.gone / 1000 ≡ plan_steps plan = omega (arith, ap (λ x. x.asked) b.after, ap (λ x. x.gone) b.after) in
    ap (λ n. d.place +ℤ signed way n) e

-- a brake ends no farther
pub brakes :
    (g : ℕ) (way : Direction) (d : DriveMeans) (p p' : ProfileMeans) → is_position d.place ≡ true → InMotion g way d p → Braked p p'
    → InMotion g way d p'
brakes g way d p p' here moves b =
    let same : p'.gone ≡ p.gone = ap (λ x. x.gone) b.after in
    let l : p'.asked / 1000 - p'.gone / 1000 ≤ p.asked / 1000 - p.gone / 1000 = omega (arith, same, b.less) in
    record {
      untripped = moves.untripped;
      slow = omega (arith, ap (λ x. fastest x.plan) b.after, moves.slow);
      ends = between way d.place (p.asked / 1000 - p.gone / 1000) _ here moves.ends l;
    }
