-- Words and comments of a text, by the places of bytes in it. Assumes nothing.
use Rattle.std.proofs.Common.{◌≡◌, ℕ, ◌+◌, ◌<◌, Bool, true, false, not, ◌&&◌, cond, ltb, eqb, List, [], ◌∷◌, ◌++◌, length, take, drop, Some, None, sym, refl, ap, ◌∙◌, arith, one-add, position, unwrap_or}
use Rattle.std.specs.List.{position_or_len, list_all}
use Rattle.std.proofs.lemmas.List.{append-nil, append_assoc, take_all}
use Rattle.std.proofs.lemmas.List.Sums.{prefix_len-le-length}
use Rattle.std.proofs.lemmas.Bool.{cond_both, ltb-true, ltb-false, false≢true}
use Rattle.text.specs.Texts.{uncommented, is_blank, is_word_byte, ended, words_from, words_of, WordsDivide}

-- where an element that passes stands first
module _ {A : Type 0} (p : A → Bool) (s : List A) where
  pub place_some : (n : ℕ) → Some n ≡ position p s → (n ≡ position_or_len p s) × (n < length s)
  place_some n =
      cond_both (ltb (position_or_len p s) (length s)) (Some (position_or_len p s)) None (λ o. Some n ≡ o → (n ≡ position_or_len p s) × (n < length s))
      (λ t e. let same : n ≡ position_or_len p s = cc in (same, omega (arith, same, ltb-true (position_or_len p s) (length s) t)))
      (λ t e. absurd (cc))

  pub place_none : None ≡ position p s → position_or_len p s ≡ length s
  place_none =
      cond_both (ltb (position_or_len p s) (length s)) (Some (position_or_len p s)) None (λ o. None ≡ o → position_or_len p s ≡ length s)
      (λ t e. absurd (cc))
      (λ t e. omega (arith, ltb-false (position_or_len p s) (length s) t, prefix_len-le-length (λ x. not (p x)) s))

  pub place_or_len : unwrap_or (position p s) (length s) ≡ position_or_len p s
  place_or_len =
      cond_both (ltb (position_or_len p s) (length s)) (Some (position_or_len p s)) None (λ o. unwrap_or o (length s) ≡ position_or_len p s)
      (λ t. refl)
      (λ t. omega (arith, ltb-false (position_or_len p s) (length s) t, prefix_len-le-length (λ x. not (p x)) s))

-- the comment begins at the first mark
uncommented_is : (s : List ℕ) → uncommented s ≡ take (position_or_len (λ b. eqb b 35) s) s
uncommented_is [] = refl
uncommented_is (b ∷ bs) =
    elim (eqb b 35) as (λ t. cond t [] (b ∷ uncommented bs) ≡ take (cond (not t) (1 + position_or_len (λ x. eqb x 35) bs) 0) (b ∷ bs)) [
      | true ↦ refl
      | false ↦ simp one-add (ap (λ l. b ∷ l) (uncommented_is bs))
    ]

pub comment_some : (s : List ℕ) (n : ℕ) → Some n ≡ position (λ b. eqb b 35) s → take n s ≡ uncommented s
comment_some s n h = ap (λ i. take i s) (place_some (λ b. eqb b 35) s n h).0 ∙ sym (uncommented_is s)

pub comment_none : (s : List ℕ) → None ≡ position (λ b. eqb b 35) s → uncommented s ≡ s
comment_none s h = uncommented_is s ∙ ap (λ i. take i s) (place_none (λ b. eqb b 35) s h) ∙ take_all (length s) s (omega arith)

words_empty : (s : List ℕ) → position_or_len is_word_byte s ≡ length s → words_of s ≡ []
words_empty [] = λ h. refl
words_empty (b ∷ bs) =
    elim (is_blank b) as (λ t. cond (not (not t)) (1 + position_or_len is_word_byte bs) 0 ≡ length (b ∷ bs) → cond t (words_of bs) (words_from (b ∷ []) bs) ≡ []) [
      | true ↦ λ h. words_empty bs (omega arith)
      | false ↦ λ h. absurd (omega arith)
    ]

-- without a byte that is no blank there is no word
pub words_none : (s : List ℕ) → None ≡ position is_word_byte s → words_of s ≡ []
words_none s h = words_empty s (place_none is_word_byte s h)

-- a run goes on to the next blank
run_ends : (run s : List ℕ) → words_from run s ≡ ended (run ++ take (position_or_len is_blank s) s) (words_of (drop (position_or_len is_blank s) s))
run_ends run [] = ap (λ l. ended l []) (sym (append-nil run))
run_ends run (b ∷ bs) =
    elim (is_blank b) as (λ t. is_blank b ≡ t → cond t (ended run (words_of bs)) (words_from (run ++ b ∷ []) bs) ≡ ended (run ++ take (cond (not t) (1 + position_or_len is_blank bs) 0) (b ∷ bs)) (words_of (drop (cond (not t) (1 + position_or_len is_blank bs) 0) (b ∷ bs)))) [
      | true ↦ λ e. rw (append-nil, e) refl
      | false ↦ λ e. simp one-add (simp append_assoc at (run_ends (run ++ b ∷ []) bs))
    ] refl

-- the word at the front of a text, and then those after it
abbrev first_then : List ℕ → List (List ℕ)
first_then t = take (position_or_len is_blank t) t ∷ words_of (drop (position_or_len is_blank t) t)

-- the first word begins at the first byte that is no blank, and ends at the first blank after it
words_some : (s : List ℕ) → position_or_len is_word_byte s < length s → words_of s ≡ first_then (drop (position_or_len is_word_byte s) s)
words_some [] = λ h. absurd (omega arith)
words_some (b ∷ bs) =
    elim (is_blank b) as (λ t. is_blank b ≡ t → cond (not (not t)) (1 + position_or_len is_word_byte bs) 0 < length (b ∷ bs) → cond t (words_of bs) (words_from (b ∷ []) bs) ≡ first_then (drop (cond (not (not t)) (1 + position_or_len is_word_byte bs) 0) (b ∷ bs))) [
      | true ↦ λ e h. simp one-add (words_some bs (omega arith))
      | false ↦ λ e h. rw e (simp one-add (run_ends (b ∷ []) bs))
    ] refl

-- what is taken off a text at its first word
pub word_taken : (s : List ℕ) (n m : ℕ) → Some n ≡ position is_word_byte s → m ≡ position_or_len is_blank (drop n s) → take m (drop n s) ∷ words_of (drop m (drop n s)) ≡ words_of s
word_taken s n m begins ends =
    let at = place_some is_word_byte s n begins in
    let parts : take m (drop n s) ∷ words_of (drop m (drop n s)) ≡ first_then (drop n s) = cc in
    parts ∙ ap (λ i. first_then (drop i s)) at.0 ∙ sym (words_some s (omega (arith, at.0, at.1)))

-- what stands behind the run that ends
ended_more : (run : List ℕ) (ws vs : List (List ℕ)) → ended run (ws ++ vs) ≡ ended run ws ++ vs
ended_more [] ws vs = refl
ended_more (b ∷ bs) ws vs = refl

divided : (run left right : List ℕ) (b : ℕ) → is_blank b ≡ true → words_from run (left ++ b ∷ right) ≡ words_from run left ++ words_of right
divided run [] right b h = ap (λ t. cond t (ended run (words_of right)) (words_from (run ++ b ∷ []) right)) h ∙ ended_more run [] (words_of right)
divided run (x ∷ xs) right b h =
    elim (is_blank x) as (λ t. cond t (ended run (words_of (xs ++ b ∷ right))) (words_from (run ++ x ∷ []) (xs ++ b ∷ right)) ≡ cond t (ended run (words_of xs)) (words_from (run ++ x ∷ []) xs) ++ words_of right) [
      | true ↦ ap (ended run) (divided [] xs right b h) ∙ ended_more run (words_of xs) (words_of right)
      | false ↦ divided (run ++ x ∷ []) xs right b h
    ]

one_word : (run s : List ℕ) → list_all is_word_byte s ≡ true → words_from run s ≡ ended (run ++ s) []
one_word run [] = λ h. ap (λ l. ended l []) (sym (append-nil run))
one_word run (b ∷ bs) =
    elim (is_blank b) as (λ t. (not t && list_all is_word_byte bs) ≡ true → cond t (ended run (words_of bs)) (words_from (run ++ b ∷ []) bs) ≡ ended (run ++ b ∷ bs) []) [
      | true ↦ λ h. absurd (false≢true h)
      | false ↦ λ h. simp append_assoc at (one_word (run ++ b ∷ []) bs h)
    ]

pub words_divide : WordsDivide
words_divide = record { none = refl; one = λ b bs h. one_word [] (b ∷ bs) h; divided = λ left right b h. divided [] left right b h }
