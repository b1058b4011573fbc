-- Rows that stand flat are those of the pairs of the numbers.
use Rattle.std.proofs.Common.{◌≡◌, ℕ, zero, suc, ◌+◌, ◌*◌, ◌<◌, ◌≤◌, List, [], length, map, get_or, take, drop, sym, refl, ap, ◌∙◌, arith}
use Rattle.std.proofs.lemmas.List.{get_or-take, get_or-drop, map_more, take_all}
use Rattle.std.specs.Simd.{first_chunks}
use Rattle.bench.specs.Flat.{pair_row, flat_rows}

pair_count : (k : ℕ) (flat : List ℕ) → length (first_chunks 2 k flat) ≡ k
pair_count zero flat = refl
pair_count (suc k) flat = omega (arith, pair_count k (drop 2 flat))

pair_at : (k i j : ℕ) (flat : List ℕ) → i < k → j < 2 → get_or (get_or (first_chunks 2 k flat) i []) j 0 ≡ get_or flat (2 * i + j) 0
pair_at zero i j flat h l = absurd (omega arith)
pair_at (suc k) zero j flat h l = let e : 0 + j ≡ j = omega arith in get_or-take 2 flat j 0 l ∙ ap (λ n. get_or flat n 0) (sym e)
pair_at (suc k) (suc i) j flat h l =
    let e : 2 + (2 * i + j) ≡ 2 * suc i + j = omega arith in
    pair_at k i j (drop 2 flat) (omega arith) l ∙ get_or-drop 2 flat (2 * i + j) 0 ∙ ap (λ n. get_or flat n 0) e

first_pairs : (k i : ℕ) (flat : List ℕ) → i ≤ k → map pair_row (take i (first_chunks 2 k flat)) ≡ flat_rows i flat
unfolding flat_rows
first_pairs k zero flat h = refl
first_pairs k (suc i) flat h =
    let on : suc i ≡ i + 1 = omega arith in
    let z : 2 * i + 0 ≡ 2 * i = omega arith in
    rw (on, map_more pair_row (first_chunks 2 k flat) i [] (omega (arith, pair_count k flat)), first_pairs k i flat (omega arith), pair_at k i 0 flat (omega arith) (omega arith), pair_at k i 1 flat (omega arith) (omega arith), z)

pub rows_in_pairs : (k : ℕ) (flat : List ℕ) → map pair_row (first_chunks 2 k flat) ≡ flat_rows k flat
rows_in_pairs k flat = sym (ap (map pair_row) (take_all k (first_chunks 2 k flat) (omega (arith, pair_count k flat)))) ∙ first_pairs k k flat (omega arith)
