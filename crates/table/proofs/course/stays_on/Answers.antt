use Rattle.std.proofs.Common.{w32, ap, ◌∙◌, rules}
use Rattle.std.proofs.lemmas.Int.{to_z-of_z}
use Rattle.table.specs.Courses.{stays_on}
use Rattle.table.proofs.SegmentLaws.{asked}
use Rattle.table.proofs.course.stays_on.Goals as goal

pub returns : goal.returns
returns c =
    let r = c.try_fold.ensures.ran in
    let e = asked _ (λ p q x k. search rules) r.0 r.1 _ _ _ _ _ _ r.4 r.5 (λ x k. search rules) r.6 in
    c.is_some.ensures
    ∙ (e ∙ (ap (λ z. stays_on z c.iter.result.rest.now) (to_z-of_z w32 c.args.from c.ranges.from) ∙ ap (stays_on c.args.from) c.iter.ensures.rest))
