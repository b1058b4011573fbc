use Rattle.std.proofs.Common.{get_or, pos, w16, SFits, rules}
use Rattle.std.proofs.lemmas.Int.{to_z-of_z}
use Rattle.block.proofs.frame.BlockTryFromRefSliceI16.try_from.Goals as goal

pub returns : goal.returns
returns c =
    let ws = c.args.words.now in
    let f0 : SFits w16 (get_or ws 0 (pos 0)) = search rules in
    let f1 : SFits w16 (get_or ws 1 (pos 0)) = search rules in
    let f2 : SFits w16 (get_or ws 2 (pos 0)) = search rules in
    let f3 : SFits w16 (get_or ws 3 (pos 0)) = search rules in
    let f4 : SFits w16 (get_or ws 4 (pos 0)) = search rules in
    let f5 : SFits w16 (get_or ws 5 (pos 0)) = search rules in
    let f6 : SFits w16 (get_or ws 6 (pos 0)) = search rules in
    let f7 : SFits w16 (get_or ws 7 (pos 0)) = search rules in
    let f8 : SFits w16 (get_or ws 8 (pos 0)) = search rules in
    let b = simp to_z-of_z at c.cast_unsigned-bits.ensures in
    let o = simp to_z-of_z at c.cast_unsigned.ensures in
    simp to_z-of_z (search rules)
