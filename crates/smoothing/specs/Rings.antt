-- A ring of values, written at the oldest.
use Rattle.std.specs.Prelude.{◌≡◌, ℕ, zero, suc, ◌+◌, ◌<◌, ◌≤◌, cond, List, [], ◌∷◌, ◌++◌, reverse, length, sum, take, drop, replicate, nat_lt, slice_index, slice_set, refl}
use Rattle.std.proofs.Common.{sym, ap, ◌∙◌, ⊎_elim, append_assoc, take-append-drop, append-nil, arith, add-one, drop-cons, drop-set-lt, take-suc-set}
use Rattle.std.proofs.lemmas.List.{drop_all, reverse-append, set_split}
use Rattle.std.proofs.lemmas.List.Sums.{sum_by-append}
use Rattle.std.proofs.lemmas.Bool.{cases_lt, lt-ltb, le-ltb}
use Rattle.smoothing.specs.Pushes.{sum_cons}
use Rattle.smoothing.specs.Windows.{pushed, oldest, newest_first}

total_append : (xs ys : List ℕ) → sum (xs ++ ys) ≡ sum xs + sum ys
total_append = sum_by-append (λ x. x)

total_reverse : (xs : List ℕ) → sum (reverse xs) ≡ sum xs
total_reverse [] = refl
total_reverse (x ∷ xs) =
    ap sum (reverse-append (x ∷ []) xs) ∙ omega (arith, total_append (reverse xs) (x ∷ []), total_reverse xs, sum_cons x xs, sum_cons x [])

-- a ring has the sum of its values
pub total_newest : (i : ℕ) (r : List ℕ) → sum (newest_first i r) ≡ sum r
total_newest i r =
    omega (arith, total_reverse (drop i r ++ take i r), total_append (drop i r) (take i r), total_append (take i r) (drop i r), ap sum (take-append-drop i r))

pushed_snoc : (v x : ℕ) (xs : List ℕ) → pushed v (xs ++ x ∷ []) ≡ v ∷ xs
pushed_snoc v x [] = refl
pushed_snoc v x (y ∷ ys) = ap (λ l. v ∷ l) (pushed_snoc y x ys)

oldest_snoc : (v x : ℕ) (xs : List ℕ) → oldest v (xs ++ x ∷ []) ≡ x
oldest_snoc v x [] = refl
oldest_snoc v x (y ∷ ys) = oldest_snoc y x ys

-- the oldest stands at i
last_newest : (i : ℕ) (r : List ℕ) → i < length r → newest_first i r ≡ reverse (drop (suc i) r ++ take i r) ++ slice_index r i ∷ []
last_newest i r h = ap (λ l. reverse (l ++ take i r)) (drop-cons r i 0 h) ∙ reverse-append (slice_index r i ∷ []) (drop (suc i) r ++ take i r)

pub oldest_newest : (v i : ℕ) (r : List ℕ) → i < length r → oldest v (newest_first i r) ≡ slice_index r i
oldest_newest v i r h = ap (oldest v) (last_newest i r h) ∙ oldest_snoc v (slice_index r i) (reverse (drop (suc i) r ++ take i r))

-- where the value written at i is the newest
written : (i j v : ℕ) (r : List ℕ) → i < length r → drop j (slice_set r i v) ++ take j (slice_set r i v) ≡ (drop (suc i) r ++ take i r) ++ v ∷ [] → newest_first j (slice_set r i v) ≡ pushed v (newest_first i r)
written i j v r h e =
    let t : List ℕ = drop (suc i) r ++ take i r in
    let a : newest_first j (slice_set r i v) ≡ v ∷ reverse t = ap reverse e ∙ reverse-append t (v ∷ []) in
    a ∙ sym (ap (pushed v) (last_newest i r h) ∙ pushed_snoc v (slice_index r i) (reverse t))

pub push_ring : (i v : ℕ) (r : List ℕ) → i < length r → newest_first (cond (nat_lt (i + 1) (length r)) (i + 1) 0) (slice_set r i v) ≡ pushed v (newest_first i r)
push_ring i v r h =
    ⊎_elim
    (λ (p : i + 1 < length r).
    rw (lt-ltb (i + 1) (length r) p)
    (written i (i + 1) v r h
    (rw (add-one, drop-set-lt (suc i) r i v (omega arith), take-suc-set r i v h) (sym (append_assoc (drop (suc i) r) (take i r) (v ∷ []))))))
    (λ (p : length r ≤ i + 1).
    let z : drop (suc i) r ≡ [] = drop_all (suc i) r (omega arith) in
    rw (le-ltb (i + 1) (length r) p)
    (written i 0 v r h (append-nil (slice_set r i v) ∙ set_split r i v h ∙ rw z)))
    (cases_lt (i + 1) (length r))

replicate_push : (n v : ℕ) → replicate n v ++ v ∷ [] ≡ replicate (suc n) v
replicate_push zero v = refl
replicate_push (suc n) v = ap (λ l. v ∷ l) (replicate_push n v)

reverse_replicate : (n v : ℕ) → reverse (replicate n v) ≡ replicate n v
reverse_replicate zero v = refl
reverse_replicate (suc n) v = reverse-append (v ∷ []) (replicate n v) ∙ ap (λ l. l ++ v ∷ []) (reverse_replicate n v) ∙ replicate_push n v

pub newest_replicate : (n v : ℕ) → newest_first 0 (replicate n v) ≡ replicate n v
newest_replicate n v = ap reverse (append-nil (replicate n v)) ∙ reverse_replicate n v
