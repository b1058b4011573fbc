-- The first line of a text, by the place of its end. Assumes nothing.
use Rattle.std.proofs.Common.{◌≡◌, ℕ, ◌+◌, ◌<◌, true, false, not, ◌&&◌, cond, eqb, List, [], ◌∷◌, ◌++◌, length, take, drop, sym, refl, ap, ◌∙◌, arith, one-add, add-one, Some, None, position}
use Rattle.std.specs.List.{position_or_len, list_all}
use Rattle.std.proofs.lemmas.List.{append-nil, append_assoc}
use Rattle.std.proofs.lemmas.Bool.{false≢true}
use Rattle.text.specs.Texts.{ended}
use Rattle.text.proofs.TextLaws.{place_some, place_none}
use Rattle.text.specs.TextLines.{lines_from, lines_of, is_line_byte, LinesDivide}

abbrev line_len : List ℕ → ℕ
line_len s = position_or_len (λ b. eqb b 10) s

line_from : (line s : List ℕ) → line_len s < length s → lines_from line s ≡ (line ++ take (line_len s) s) ∷ lines_of (drop (line_len s + 1) s)
line_from line [] = λ h. absurd (omega arith)
line_from line (b ∷ bs) =
    elim (eqb b 10) as (λ t. cond (not t) (1 + line_len bs) 0 < length (b ∷ bs) → cond t (line ∷ lines_of bs) (lines_from (line ++ b ∷ []) bs) ≡ (line ++ take (cond (not t) (1 + line_len bs) 0) (b ∷ bs)) ∷ lines_of (drop (cond (not t) (1 + line_len bs) 0 + 1) (b ∷ bs))) [
      | true ↦ λ h. rw append-nil refl
      | false ↦ λ h. simp (one-add, add-one) (simp (append_assoc, add-one) at (line_from (line ++ b ∷ []) bs (omega arith)))
    ]

-- a text with an end of line
pub line_some : (s : List ℕ) (n : ℕ) → Some n ≡ position (λ b. eqb b 10) s → take n s ∷ lines_of (drop (n + 1) s) ≡ lines_of s
line_some s n h =
    let end = place_some (λ b. eqb b 10) s n h in
    ap (λ i. take i s ∷ lines_of (drop (i + 1) s)) end.0 ∙ sym (line_from [] s (omega (arith, end.0, end.1)))

line_all : (line s : List ℕ) → line_len s ≡ length s → lines_from line s ≡ ended (line ++ s) []
line_all line [] = λ h. rw append-nil refl
line_all line (b ∷ bs) =
    elim (eqb b 10) as (λ t. cond (not t) (1 + line_len bs) 0 ≡ length (b ∷ bs) → cond t (line ∷ lines_of bs) (lines_from (line ++ b ∷ []) bs) ≡ ended (line ++ b ∷ bs) []) [
      | true ↦ λ h. absurd (omega arith)
      | false ↦ λ h. simp append_assoc at (line_all (line ++ b ∷ []) bs (omega arith))
    ]

-- a text without an end of line
pub line_only : (s : List ℕ) → None ≡ position (λ b. eqb b 10) s → 0 < length s → lines_of s ≡ s ∷ []
line_only [] h some = absurd (omega arith)
line_only (b ∷ bs) h some = line_all [] (b ∷ bs) (place_none (λ x. eqb x 10) (b ∷ bs) h)

divided : (run line right : List ℕ) → list_all is_line_byte line ≡ true → lines_from run (line ++ 10 ∷ right) ≡ (run ++ line) ∷ lines_of right
divided run [] right = λ h. ap (λ l. l ∷ lines_of right) (sym (append-nil run))
divided run (b ∷ bs) right =
    elim (eqb b 10) as (λ t. (not t && list_all is_line_byte bs) ≡ true → cond t (run ∷ lines_of (bs ++ 10 ∷ right)) (lines_from (run ++ b ∷ []) (bs ++ 10 ∷ right)) ≡ (run ++ b ∷ bs) ∷ lines_of right) [
      | true ↦ λ h. absurd (false≢true h)
      | false ↦ λ h. simp append_assoc at (divided (run ++ b ∷ []) bs right h)
    ]

one_line : (run s : List ℕ) → list_all is_line_byte s ≡ true → lines_from run s ≡ ended (run ++ s) []
one_line run [] = λ h. ap (λ l. ended l []) (sym (append-nil run))
one_line run (b ∷ bs) =
    elim (eqb b 10) as (λ t. (not t && list_all is_line_byte bs) ≡ true → cond t (run ∷ lines_of bs) (lines_from (run ++ b ∷ []) bs) ≡ ended (run ++ b ∷ bs) []) [
      | true ↦ λ h. absurd (false≢true h)
      | false ↦ λ h. simp append_assoc at (one_line (run ++ b ∷ []) bs h)
    ]

pub lines_divide : LinesDivide
lines_divide = record { none = refl; one = λ b bs h. one_line [] (b ∷ bs) h; divided = λ line right h. divided [] line right h }
