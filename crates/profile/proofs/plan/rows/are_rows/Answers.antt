use Rattle.std.proofs.Common.{◌≡◌, ℕ, ◌&&◌, List, refl, ◌∙◌, rules, tests}
use Rattle.std.specs.List.{list_all}
use Rattle.std.proofs.lemmas.Iterator.{YieldsList-from_slice}
use Rattle.std.proofs.lemmas.Iterator.Search.{all_from_yields_List}
use Rattle.std.proofs.lemmas.List.Recursion.{same_from_clauses}
use Rattle.profile.specs.Rows.{is_row, are_rows}
use Rattle.profile.specs.declared.row.Row.{Row}
use Rattle.profile.proofs.plan.rows.are_rows.Goals as goal

all_are_rows : (S : ℕ) (rows : List Row) → list_all (is_row S) rows ≡ are_rows S rows
unfolding are_rows
all_are_rows S = same_from_clauses _ _ (λ r b. is_row S r && b) refl (λ _ _. refl) (λ _ _. refl)

pub returns : goal.returns
returns c =
    all_from_yields_List (is_row c.args.start) _ _ _ c.all.ensures.ran (YieldsList-from_slice c.args.rows.now cc) (λ x b q k. search (rules, tests)) ∙ all_are_rows c.args.start c.args.rows.now
