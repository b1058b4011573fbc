use Rattle.std.proofs.Common.{◌∙◌, w32, SFits, rules}
use Rattle.std.proofs.lemmas.Int.{to_z-of_z}
use Rattle.text.proofs.DecimalLaws.{signed_narrow, converted_same}
use Rattle.text.proofs.number.short.Goals as goal

pub returns : goal.returns
returns c =
    let z = c.in_ok-number.field-0 in
    let fits : SFits w32 z = search rules in
    c.ok.ensures.value ∙ converted_same c.try_from.result _ _ z (to_z-of_z w32 z fits) c.try_from.ensures (signed_narrow c.args.word.now z c.in_ok-number.ensures)
