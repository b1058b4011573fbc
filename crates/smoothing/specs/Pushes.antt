-- What a new value makes of the values kept.
use Rattle.std.specs.Prelude.{◌≡◌, ℕ, zero, suc, ◌+◌, ◌-◌, ◌*◌, ◌<◌, ◌≤◌, List, [], ◌∷◌, length, sum, replicate, ◌==◌, ◌≢◌, refl}
use Rattle.std.proofs.Common.{ap, ⊎_elim, suc-mul, arith}
use Rattle.std.proofs.lemmas.Nat.{mul-le}
use Rattle.std.proofs.lemmas.List.Sums.{sum_by-cons}
use Rattle.std.proofs.lemmas.Bool.{cases_eq, eq-eqb, ne_eqb, cond_both}
use Rattle.smoothing.specs.Windows.{pushed, oldest, from_other, Steady}

pub length_pushed : (v : ℕ) (xs : List ℕ) → length (pushed v xs) ≡ length xs
length_pushed v [] = refl
length_pushed v (x ∷ xs) = ap suc (length_pushed x xs)

pub sum_cons : (x : ℕ) (xs : List ℕ) → sum (x ∷ xs) ≡ x + sum xs
sum_cons = sum_by-cons (λ x. x)

pub total_pushed : (v : ℕ) (xs : List ℕ) → sum (pushed v xs) + oldest v xs ≡ v + sum xs
total_pushed v [] = omega arith
total_pushed v (x ∷ xs) = omega (arith, sum_cons v (pushed x xs), sum_cons x xs, total_pushed x xs)

pub steady_pushed : (t v x : ℕ) (xs : List ℕ) → x ≤ v → v ≤ x + t → Steady t x xs → Steady t v (pushed x xs)
steady_pushed t v x [] p q s = tt
steady_pushed t v x (y ∷ ys) p q s = ((p, q), steady_pushed t x y ys s.0.0 s.0.1 s.1)

-- the oldest is at most as far back as so many rises
pub oldest_le : (t v : ℕ) (xs : List ℕ) → Steady t v xs → oldest v xs ≤ v
oldest_le t v [] s = omega arith
oldest_le t v (x ∷ xs) s = omega (arith, oldest_le t x xs s.1)

pub oldest_near : (t v : ℕ) (xs : List ℕ) → Steady t v xs → v ≤ oldest v xs + length xs * t
oldest_near t v [] s = omega arith
oldest_near t v (x ∷ xs) s = rw suc-mul (omega (arith, oldest_near t x xs s.1))

pub total_le : (t v : ℕ) (xs : List ℕ) → Steady t v xs → sum xs ≤ length xs * v
total_le t v [] s = omega arith
total_le t v (x ∷ xs) s =
    rw suc-mul (omega (arith, sum_cons x xs, total_le t x xs s.1, mul-le (length xs) x (length xs) v (omega arith) s.0.0))

-- all equal, and not
pub total_alike : (v : ℕ) (xs : List ℕ) → from_other v xs ≡ 0 → sum xs ≡ length xs * v
total_alike v [] e = omega arith
total_alike v (x ∷ xs) e =
    ⊎_elim
    (λ (h : v ≡ x). let u : from_other v xs ≡ 0 = rw (eq-eqb v x h) at e in rw suc-mul (omega (arith, sum_cons x xs, total_alike v xs u)))
    (λ (h : v ≡ x → ⊥). let u : 1 + length xs ≡ 0 = rw (ne_eqb v x h) at e in omega arith)
    (cases_eq v x)

pub total_unlike : (t v : ℕ) (xs : List ℕ) → Steady t v xs → 0 < from_other v xs → sum xs < length xs * v
total_unlike t v [] s p = omega arith
total_unlike t v (x ∷ xs) s p =
    ⊎_elim
    (λ (h : v ≡ x).
    let u : 0 < from_other v xs = rw (eq-eqb v x h) at p in
    let k : Steady t v xs = rw h s.1 in
    rw suc-mul (omega (arith, sum_cons x xs, total_unlike t v xs k u)))
    (λ (h : v ≡ x → ⊥).
    rw suc-mul (omega (arith, sum_cons x xs, h, s.0, total_le t x xs s.1, mul-le (length xs) x (length xs) v (omega arith) s.0.0)))
    (cases_eq v x)

pub other_le : (v : ℕ) (xs : List ℕ) → from_other v xs ≤ length xs
other_le v [] = omega arith
other_le v (x ∷ xs) =
    cond_both (v == x) (from_other v xs) (1 + length xs) (λ n. n ≤ suc (length xs)) (λ _. omega (arith, other_le v xs)) (λ _. omega arith)

-- after another value the ticks until all are equal start over
pub other_pushed : (v x : ℕ) (xs : List ℕ) → (v ≢ x) → from_other v (pushed x xs) ≡ length xs
other_pushed v x [] n = refl
other_pushed v x (y ∷ ys) n = rw (ne_eqb v x n) (omega (arith, length_pushed y ys))

-- after the same value they are one fewer
pub same_pushed : (v : ℕ) (xs : List ℕ) → from_other v (pushed v xs) ≡ from_other v xs - 1
same_pushed v [] = refl
same_pushed v (y ∷ ys) =
    rw (eq-eqb v v refl)
    (⊎_elim
    (λ (h : v ≡ y). rw (eq-eqb v y h) (rw (← h) (same_pushed v ys)))
    (λ (h : v ≡ y → ⊥). rw (ne_eqb v y h) (omega (arith, other_pushed v y ys h)))
    (cases_eq v y))

-- so many equal values
pub steady_replicate : (t v n : ℕ) → Steady t v (replicate n v)
steady_replicate t v zero = tt
steady_replicate t v (suc n) = ((omega arith, omega arith), steady_replicate t v n)
