-- Lists of calls.
use Rattle.std.proofs.Common.{◌≡◌, ℕ, ◌≤◌, List, [], ◌∷◌, ◌++◌, map, take, length, replicate, ap, ◌∙◌}
use Rattle.std.proofs.lemmas.List.{map-append, take-replicate}

-- one more at the end
pub one_more : {X Y : Type 0} (f : X → Y) (xs : List X) (x : X) → map f (xs ++ x ∷ []) ≡ map f xs ++ f x ∷ []
one_more f xs x = map-append f xs (x ∷ [])

-- the first of so many that are the same
pub same_first : {X : Type 0} (xs : List X) (n : ℕ) (x : X) → xs ≡ replicate (length xs) x → n ≤ length xs → take n xs ≡ replicate n x
same_first xs n x e h = ap (take n) e ∙ take-replicate n (length xs) x h
