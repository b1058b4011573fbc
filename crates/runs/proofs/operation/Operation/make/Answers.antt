use Rattle.std.proofs.Common.{◌++◌, ◌∷◌, [], refl, is_ok, ap, ◌∙◌, if◌then◌else◌}
use Rattle.axis.specs.Axes.{meaning}
use Rattle.law.specs.Runs.{seen_of}
use Rattle.runs.specs.Journals.{call_means, answer_means}
use Rattle.runs.proofs.operation.Operation.make.Goals as goal

pub returns-clause-made : goal.returns-clause-made
returns-clause-made g c =
    let after = meaning g.D.Drive g.P.Profile c.call.new.axis in
    let made = c.in_ok-answer.ensures.made in
    let shown = c.entry-entry.ensures in
    record {
      moment = record { call = call_means c.args.call; answer = answer_means c.in_ok-answer.answer; seen = seen_of after };
      call = refl;
      step = record { answers = made.answers; after = made.after; uses = made.uses; shows = refl; placed = shown.placed; sound = shown.sound };
      entry = c.entry-entry.result;
      adds = c.push.ensures.items ∙ (ap (λ r. if is_ok r then c.reserve.new.self.items ++ c.entry-entry.result ∷ [] else c.reserve.new.self.items) c.unwrap.ensures ∙ ap (λ es. es ++ c.entry-entry.result ∷ []) c.reserve.ensures.items);
      notes = shown.shows;
    }
