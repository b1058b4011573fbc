-- Values kept, each of which rose by at most so much, and their mean.
use Rattle.std.specs.Prelude.{◌≡◌, ℕ, zero, suc, ◌+◌, ◌*◌, ◌/◌, ◌<◌, ◌≤◌, List, [], ◌∷◌, length, sum, replicate, refl}
use Rattle.std.specs.Coded.{Coded-set, coded_ℕ, ×_prop, Unit-prop, le_prop}
use Rattle.std.proofs.Common.{suc-mul, mul-suc, mul_comm, div-mul-le_self, arith}
use Rattle.std.proofs.Math.Nat.{add-mul-div_right, div-le_of_le-mul, mul-div_cancel_left, mul-div_left}
use Rattle.std.proofs.lemmas.Nat.{mul-le, div_below, le-div}
use Rattle.std.proofs.lemmas.List.{length-replicate}
use Rattle.smoothing.specs.Windows.{mean_of, pushed, from_other, Steady, Kept}
use Rattle.smoothing.specs.Pushes.{sum_cons, length_pushed, total_pushed, steady_pushed, steady_replicate, oldest_le, oldest_near, total_le, total_alike, total_unlike}

-- there is at most one proof that a window is kept
steady_prop : (t v : ℕ) (xs : List ℕ) → IsProp (Steady t v xs)
steady_prop t v [] = Unit-prop
steady_prop t v (x ∷ xs) = ×_prop (×_prop le_prop le_prop) (steady_prop t x xs)

pub kept_prop : (t v : ℕ) (xs : List ℕ) → IsProp (Kept t v xs)
kept_prop t v [] = λ a b. absurd a
kept_prop t v (x ∷ xs) = ×_prop (Coded-set coded_ℕ x v) (steady_prop t x xs)

pub kept_some : (t g : ℕ) (ws : List ℕ) → Kept t g ws → 0 < length ws
kept_some t g [] k = absurd k
kept_some t g (x ∷ xs) k = omega arith

pub kept_pushed : (t g v : ℕ) (ws : List ℕ) → Kept t g ws → g ≤ v → v ≤ g + t → Kept t v (pushed v ws)
kept_pushed t g v [] k p q = absurd k
kept_pushed t g v (x ∷ xs) k p q = (refl, steady_pushed t v x xs (omega (arith, k.0)) (omega (arith, k.0)) k.1)

pub kept_replicate : (t g n : ℕ) → 0 < n → Kept t g (replicate n g)
kept_replicate t g zero p = let z : ⊥ = omega arith in absurd z
kept_replicate t g (suc n) p = (refl, steady_replicate t g n)

-- the sum is at most so many times the newest, so it fits
kept_total : (t g x : ℕ) (xs : List ℕ) → Kept t g (x ∷ xs) → sum (x ∷ xs) ≤ suc (length xs) * g
kept_total t g x xs k = rw suc-mul (rw (← k.0) (omega (arith, sum_cons x xs, total_le t x xs k.1)))

pub total_fits : (t g : ℕ) (ws : List ℕ) → Kept t g ws → length ws ≤ 64 → g ≤ 16777214000 → sum ws ≤ 1073741696000
total_fits t g [] k l h = omega arith
total_fits t g (x ∷ xs) k l h = omega (arith, kept_total t g x xs k, mul-le (suc (length xs)) g 64 16777214000 l h)

-- so many equal values
pub total_replicate : (n v : ℕ) → sum (replicate n v) ≡ v * n
total_replicate zero v = omega arith
total_replicate (suc n) v = rw mul-suc (omega (arith, sum_cons v (replicate n v), total_replicate n v))

pub mean_replicate : (n v : ℕ) → 0 < n → mean_of (replicate n v) ≡ v
mean_replicate n v p = rw (length-replicate n v, total_replicate n v) (mul-div_left v p)

-- the mean is at most the newest, and reaches it where all are equal, and only there
pub mean_le : (t g : ℕ) (ws : List ℕ) → Kept t g ws → mean_of ws ≤ g
mean_le t g [] k = absurd k
mean_le t g (x ∷ xs) k = div-le_of_le-mul (suc (length xs)) (kept_total t g x xs k)

pub mean_alike : (g x : ℕ) (xs : List ℕ) → x ≡ g → from_other x xs ≡ 0 → mean_of (x ∷ xs) ≡ g
mean_alike g x xs e u =
    let p : 0 < suc (length xs) = omega arith in
    let s : sum (x ∷ xs) ≡ suc (length xs) * g = rw suc-mul (rw (← e) (omega (arith, sum_cons x xs, total_alike x xs u))) in
    rw s (mul-div_cancel_left g p)

pub mean_unlike : (t g x : ℕ) (xs : List ℕ) → Kept t g (x ∷ xs) → 0 < from_other x xs → mean_of (x ∷ xs) < g
mean_unlike t g x xs k u =
    let p : 0 < suc (length xs) = omega arith in
    div_below (sum (x ∷ xs)) (suc (length xs)) g p
    (rw (mul_comm g (suc (length xs)), suc-mul) (rw (← k.0) (omega (arith, sum_cons x xs, total_unlike t x xs k.1 u))))

-- quotients of near numbers are near
div_rises : (s s' k : ℕ) → 0 < k → s ≤ s' → s / k ≤ s' / k
div_rises s s' k p h = le-div (s / k) s' k p (omega (arith, h, div-mul-le_self s k))

div_near : (s s' t k : ℕ) → 0 < k → s' ≤ s + t * k → s' / k ≤ s / k + t
div_near s s' t k p h = omega (arith, div_rises s' (s + t * k) k p h, add-mul-div_right s t p)

-- a new value raises the mean by at most t
module _ (t g v : ℕ) (from : g ≤ v) (to : v ≤ g + t) where
  pub mean_rises : (ws : List ℕ) → Kept t g ws → mean_of ws ≤ mean_of (pushed v ws)
  mean_rises [] k = absurd k
  mean_rises (x ∷ xs) k =
      let p : 0 < suc (length xs) = omega arith in
      rw (length_pushed v (x ∷ xs))
      (div_rises (sum (x ∷ xs)) (sum (pushed v (x ∷ xs))) (suc (length xs)) p
      (omega (arith, k.0, total_pushed v (x ∷ xs), oldest_le t x xs k.1)))

  pub mean_near : (ws : List ℕ) → Kept t g ws → mean_of (pushed v ws) ≤ mean_of ws + t
  mean_near [] k = absurd k
  mean_near (x ∷ xs) k =
      let p : 0 < suc (length xs) = omega arith in
      rw (length_pushed v (x ∷ xs))
      (div_near (sum (x ∷ xs)) (sum (pushed v (x ∷ xs))) t (suc (length xs)) p
      (rw (mul_comm t (suc (length xs)), suc-mul)
      (omega (arith, k.0, total_pushed v (x ∷ xs), oldest_near t x xs k.1))))
