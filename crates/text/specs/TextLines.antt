-- Lines end at a line feed (10). What stands after the last one is a line too, unless it is empty.
use Rattle.std.specs.Prelude.{◌≡◌, ℕ, Bool, true, cond, not, List, [], ◌∷◌, ◌++◌, ◌==◌}
use Rattle.std.specs.List.{list_all}
use Rattle.text.specs.Texts.{ended}
use Rattle.text.specs.declared.lines.Lines.{Lines}

-- the lines of a text that goes on from the line so far
abbrev pub lines_from : List ℕ → List ℕ → List (List ℕ)
lines_from line [] = ended line []
lines_from line (b ∷ bs) = cond (b == 10) (line ∷ lines_from [] bs) (lines_from (line ++ b ∷ []) bs)

abbrev pub lines_of : List ℕ → List (List ℕ)
lines_of bs = lines_from [] bs

-- a byte within a line
abbrev pub is_line_byte : ℕ → Bool
is_line_byte b = not (b == 10)

-- What lines are: a text of no byte has none, one of some bytes without a line feed is a line itself, and what stands before the first line
-- feed, be it nothing, is the first line of a text.
pub record LinesDivide : Type 0 where
  pub none : lines_of [] ≡ []
  pub one : (b : ℕ) (bs : List ℕ) → list_all is_line_byte (b ∷ bs) ≡ true → lines_of (b ∷ bs) ≡ (b ∷ bs) ∷ []
  pub divided : (line right : List ℕ) → list_all is_line_byte line ≡ true → lines_of (line ++ 10 ∷ right) ≡ line ∷ lines_of right

-- the lines that are left
abbrev pub lines_left : Lines → List (List ℕ)
lines_left l = lines_of l.rest.now
