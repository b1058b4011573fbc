use Rattle.std.proofs.Common.{◌≡◌, ◌-◌, ◌+◌, length, sym, ap, arith, length-set}
use Rattle.std.proofs.lemmas.Bool.{eqb-false}
use Rattle.std.proofs.lemmas.List.{length-take-le, drop-set-lt, drop-drop, drop-replicate}
use Rattle.std.proofs.lemmas.Grind.{common_steps}
use Rattle.profile.proofs.list.RowList.push.Goals as goal

pub invariant_of-self : goal.invariant_of-self
invariant_of-self c =
    let l = c.self.inside in
    let h = c.self.invariant in
    let n = ap length c.self.view_is in
    let k = length-take-le l.count l.rows (omega (arith, h.few, h.places)) in
    let f = eqb-false (length c.args.self.now) 16 (sym c.if-is_full.ensures.full) in
    let less : 16 - l.count - 1 ≡ 16 - (l.count + 1) = omega arith in
    record {
      few = omega (arith, n, k, f);
      places = simp length-set h.places;
      others = grind (arith, common_steps, drop-set-lt (l.count + 1) l.rows l.count c.args.row, drop-drop 1 l.count l.rows, drop-replicate);
    }
