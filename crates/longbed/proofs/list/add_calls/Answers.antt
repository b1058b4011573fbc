use Rattle.std.proofs.Common.{◌≤◌, ◌++◌, ◌∷◌, [], map, length, pos, subst, ap, ◌∙◌}
use Rattle.law.specs.Calls as law
use Rattle.longbed.specs.Callings.{buffer_of}
use Rattle.longbed.proofs.Listings.{one_more, same_first}
use Rattle.runs.specs.Journals.{call_means}
use Rattle.script.specs.Readings.{line_means}
use Rattle.longbed.proofs.list.add_calls.Goals as goal

pub returns-in_ok-push-in-Reading : goal.returns-in_ok-push-in-Reading
returns-in_ok-push-in-Reading c =
    let old = c.args.calls.now.items in
    let sevens = c.args.sevens.now in
    let long = subst (λ l. buffer_of (line_means l) ≤ length sevens) c.in-Reading.is c.requires.long in
    let sames = same_first sevens c.in-Reading.size (pos 7) c.requires.sevens long in
    rw c.in-Reading.is (ap (map call_means) c.in_ok-push-in-Reading.ensures.items ∙ (one_more call_means old _ ∙ ap (λ ws. map call_means old ++ law.Reading ws ∷ []) sames))
