-- A delivery, as the steps that reach the drive or none.
use Rattle.std.proofs.Common.{◌≡◌, ℕ, true, false, cond, eqb, ℤ, pos, nat_abs, is_ok, Some, None, Ok, Err, Option, Result, ◌≢◌, subst, sym, ap, ◌∙◌, ⊎_elim, arith}
use Rattle.std.specs.Result.{result_ok}
use Rattle.std.proofs.lemmas.Bool.{cases_Bool, eqb-true, eqb-false}
use Rattle.std.proofs.lemmas.Int.{ints}
use Rattle.drive.specs.Deliveries.{Delivered}
use Rattle.drive.specs.Drives.{DriveMeans, Moved, landing, answering}
use Rattle.drive.specs.declared.fault.DriveFault.{DriveFault}
use Rattle.axis.specs.Ticks.{takes_all, sent_to}

some_same : {x y : ℤ} → ◌≡◌ {A = Option ℤ} (Some x) (Some y) → x ≡ y
some_same e = cc

none_some : {y : ℤ} → ◌≡◌ {A = Option ℤ} None (Some y) → ⊥
none_some e = cc

no_steps : (n : ℤ) → eqb (nat_abs n) 0 ≡ true → n ≡ pos 0
no_steps n e = let z : nat_abs n ≡ 0 = eqb-true _ _ e in grind (arith, ints)

-- the steps that are answered are those that were brought
told : (to : Result ℤ DriveFault) (n k : ℤ) (r : Result ℤ DriveFault) → r ≡ answering to n → result_ok r ≡ Some k → (is_ok r ≡ true) × (n ≡ k)
told (Ok p) n k r e h = let a : result_ok r ≡ Some n = ap result_ok e in (ap is_ok e, some_same (sym a ∙ h))
told (Err f) n k r e h = absurd (none_some (sym (ap result_ok e) ∙ h))

module _ {D : Type 0} (means : D → DriveMeans) (Advanced : D → ℤ → D → Type 0) (g : ℕ) where
  -- some steps
  advanced :
      (to : Result ℤ DriveFault) (n : ℤ) (before : D) (r : Result ℤ DriveFault) (after : D) → Moved (means before) to n r (means after)
      → result_ok r ≡ cond (is_ok to) (Some n) None
  advanced (Ok p) n before r after m = ap result_ok m.answer
  advanced (Err e) n before r after m = ap result_ok m.answer

  pub sent :
      (n : ℤ) (before : D) (r : Result ℤ DriveFault) (after : D) → Delivered means Advanced g n before r after
      → (result_ok r ≡ cond (takes_all g (means before) n) (Some n) None) × (means after ≡ sent_to g (means before) n)
  unfolding takes_all sent_to
  sent n before r after v =
      ⊎_elim
      (λ (e : eqb (nat_abs n) 0 ≡ true).
      let z : n ≡ pos 0 = no_steps n e in
      let w = v.none z in
      (rw e (ap result_ok w.0 ∙ ap Some (sym z)), rw e (ap means w.1)))
      (λ (e : eqb (nat_abs n) 0 ≡ false).
      let some : n ≡ pos 0 → ⊥ = λ h. eqb-false (nat_abs n) 0 e (ap nat_abs h) in
      (rw e (advanced (landing g (means before) n) n before r after (v.some some)), rw e (v.some some).after))
      (cases_Bool (eqb (nat_abs n) 0))

  -- steps that are answered, and are some, were brought by one advance
  pub sent_once :
      (n k : ℤ) (before : D) (r : Result ℤ DriveFault) (after : D) → Delivered means Advanced g n before r after → result_ok r ≡ Some k → (k ≢ pos 0)
      → Advanced before k after
  sent_once n k before r after v e some =
      let brought : n ≢ pos 0 = λ z. some (some_same (sym e ∙ ap result_ok (v.none z).0)) in
      let w = told (landing g (means before) n) n k r (v.some brought).answer e in
      subst (λ x. Advanced before x after) w.1 (v.once brought w.0)
