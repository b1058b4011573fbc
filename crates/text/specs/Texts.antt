-- A text is a list of bytes. A comment begins at the first '#' (35) and goes to the end.
-- Words are the longest runs of bytes other than blanks: space (32), tab (9) and carriage return (13).
use Rattle.std.specs.Prelude.{◌≡◌, ℕ, Bool, true, cond, not, ◌||◌, List, [], ◌∷◌, ◌++◌, ◌==◌}
use Rattle.std.specs.List.{list_all}
use Rattle.text.specs.declared.text.Words.{Words}

-- what stands before the comment
abbrev pub uncommented : List ℕ → List ℕ
uncommented [] = []
uncommented (b ∷ bs) = cond (b == 35) [] (b ∷ uncommented bs)

abbrev pub is_blank : ℕ → Bool
is_blank b = b == 32 || (b == 9 || b == 13)

-- a byte that is no blank
abbrev pub is_word_byte : ℕ → Bool
is_word_byte b = not (is_blank b)

-- a run that ends before ws is a word where it has a byte
abbrev pub ended : List ℕ → List (List ℕ) → List (List ℕ)
ended [] ws = ws
ended (b ∷ bs) ws = (b ∷ bs) ∷ ws

-- the words of a text that goes on from the run so far
abbrev pub words_from : List ℕ → List ℕ → List (List ℕ)
words_from run [] = ended run []
words_from run (b ∷ bs) = cond (is_blank b) (ended run (words_from [] bs)) (words_from (run ++ b ∷ []) bs)

abbrev pub words_of : List ℕ → List (List ℕ)
words_of bs = words_from [] bs

-- What words are: a text of no byte has none, one of some bytes without a blank is a word itself, and any blank divides a text.
pub record WordsDivide : Type 0 where
  pub none : words_of [] ≡ []
  pub one : (b : ℕ) (bs : List ℕ) → list_all is_word_byte (b ∷ bs) ≡ true → words_of (b ∷ bs) ≡ (b ∷ bs) ∷ []
  pub divided : (left right : List ℕ) (blank : ℕ) → is_blank blank ≡ true → words_of (left ++ blank ∷ right) ≡ words_of left ++ words_of right

-- the words that are left
abbrev pub words_left : Words → List (List ℕ)
words_left w = words_of w.rest.now
