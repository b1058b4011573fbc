-- The steps of the loop over a number's digits, and a number by its first bytes. Assumes nothing.
use Rattle.std.proofs.Common.{◌≡◌, ℕ, zero, suc, ◌+◌, ◌*◌, ◌^◌, ◌<◌, ◌≤◌, true, false, cond, eqb, ltb, List, [], ◌∷◌, length, get_or, drop, ℤ, pos, neg_ℤ, Some, None, Ok, Err, Option, Result, sym, refl, ap, ◌∙◌, subst, mul-le-mul_left, mul-one, arith, lit<, w16, SFits}
use Rattle.std.specs.Option.{SomeIff, option_map}
use Rattle.std.specs.Result.{OkIff, result_ok}
use Rattle.std.specs.Char.{digit_value}
use Rattle.std.proofs.lemmas.List.{at_drop_more}
use Rattle.std.proofs.lemmas.Bool.{lt-ltb, le-ltb, cond-true, cond-false, cond_both, ltb-true, ltb-false}
use Rattle.text.specs.Decimals.{digits_after, digits_of, below, negative_of, positive_of, signed_of}

-- further digits make no number smaller
below_none : (base limit n : ℕ) (bs : List ℕ) → 2 ≤ base → limit ≤ n → below limit (digits_after base n bs) ≡ None
below_none base limit n [] two h = cond-false (ltb n limit) (Some n) None (le-ltb n limit h)
below_none base limit n (b ∷ bs) two h =
    let grows : n * 1 ≤ n * base = mul-le-mul_left n (omega arith) in
    cond_both (ltb (digit_value b) base) (digits_after base (n * base + digit_value b) bs) None (λ o. below limit o ≡ None)
    (λ _. below_none base limit (n * base + digit_value b) bs two (omega (arith, grows, mul-one n))) (λ _. refl)

module _ (base n : ℕ) (s : List ℕ) (i : ℕ) where
  step : i < length s → digits_after base n (drop i s) ≡ cond (ltb (digit_value (get_or s i 0)) base) (digits_after base (n * base + digit_value (get_or s i 0)) (drop (i + 1) s)) None
  step h = at_drop_more (digits_after base n) s i 0 h

  digits_more : i < length s → digit_value (get_or s i 0) < base → digits_after base n (drop i s) ≡ digits_after base (n * base + digit_value (get_or s i 0)) (drop (i + 1) s)
  digits_more h e = step h ∙ cond-true _ _ _ (lt-ltb _ _ e)

  -- the number gets too large at this digit
  pub digits_large : (limit : ℕ) → 2 ≤ base → i < length s → digit_value (get_or s i 0) < base → limit ≤ n * base + digit_value (get_or s i 0) → below limit (digits_after base n (drop i s)) ≡ None
  digits_large limit two h e large = ap (below limit) (digits_more h e) ∙ below_none base limit _ (drop (i + 1) s) two large

-- what a number below a limit is
below_is : (f : ℕ → ℤ) (limit n : ℕ) (z : ℤ) → Some z ≡ option_map f (below limit (Some n)) → z ≡ f n
below_is f limit n z =
    cond_both (ltb n limit) (Some n) None (λ o. Some z ≡ option_map f o → z ≡ f n) (λ _ e. cc) (λ _ e. absurd (grind arith))

-- one below the greater limit is below the less exactly where it fits 16 bits
narrow : (f : ℕ → ℤ) (less more : ℕ) → ((n : ℕ) → n < less → SFits w16 (f n)) → ((n : ℕ) → less ≤ n → SFits w16 (f n) → ⊥)
    → (o : Option ℕ) (z : ℤ) → Some z ≡ option_map f (below more o) → SomeIff (option_map f (below less o)) (SFits w16 z) z
narrow f less more fits large None z e = absurd (grind arith)
narrow f less more fits large (Some n) z e =
    let same = below_is f more n z e in
    cond_both (ltb n less) (Some n) None (λ o. SomeIff (option_map f o) (SFits w16 z) z)
    (λ t. (subst (SFits w16) (sym same) (fits n (ltb-true n less t)), sym same))
    (λ t h. large n (ltb-false n less t) (subst (SFits w16) same h))

negative_fits : (n : ℕ) → n < 2 ^ 15 + 1 → SFits w16 (neg_ℤ (pos n))
negative_fits zero h = record { sfits = lit< tt }
negative_fits (suc n) h = record { sfits = omega arith }

negative_large : (n : ℕ) → 2 ^ 15 + 1 ≤ n → SFits w16 (neg_ℤ (pos n)) → ⊥
negative_large zero h f = omega arith
negative_large (suc n) h f = omega (arith, f.sfits)

-- a signed number of 32 bits is one of 16 exactly where it fits them
pub signed_narrow : (s : List ℕ) (z : ℤ) → Some z ≡ signed_of (2 ^ 31) s → SomeIff (signed_of (2 ^ 15) s) (SFits w16 z) z
signed_narrow [] z = λ e. absurd (grind arith)
signed_narrow (b ∷ bs) z =
    elim (eqb b 45) as (λ t. Some z ≡ cond t (negative_of (2 ^ 31) bs) (positive_of (2 ^ 31) (b ∷ bs)) → SomeIff (cond t (negative_of (2 ^ 15) bs) (positive_of (2 ^ 15) (b ∷ bs))) (SFits w16 z) z) [
      | true ↦ narrow (λ n. neg_ℤ (pos n)) (2 ^ 15 + 1) (2 ^ 31 + 1) negative_fits negative_large (digits_of 10 bs) z
      | false ↦ narrow pos (2 ^ 15) (2 ^ 31) (λ n h. record { sfits = h }) (λ n h g. omega (arith, g.sfits)) (digits_of 10 (b ∷ bs)) z
    ]

-- two answers to one question
pub converted_same : {E : Type 0} (r : Result ℤ E) (o : Option ℤ) (x y : ℤ) → x ≡ y → OkIff r (SFits w16 x) x → SomeIff o (SFits w16 y) y → result_ok r ≡ o
converted_same (Ok a) (Some b) x y e p q = ap Some (p.1 ∙ e ∙ sym q.1)
converted_same (Ok a) None x y e p q = absurd (q (subst (SFits w16) e p.0))
converted_same (Err d) (Some b) x y e p q = absurd (p (subst (SFits w16) (sym e) q.0))
converted_same (Err d) None x y e p q = refl
