use Rattle.std.proofs.Common.{◌≡◌, ◌+◌, cond, nat_lt, length, set, ap, ◌∙◌, arith, length-set}
use Rattle.std.proofs.lemmas.Bool.Decides.{nat_tests}
use Rattle.arrayvec.proofs.ArrayVecLemmas.{items-with_items}
use Rattle.smoothing.specs.Rings.{push_ring, oldest_newest}
use Rattle.smoothing.proofs.ring.Ring.push.Goals as goal

pub returns : goal.returns
returns c =
    let r = c.self.inside in
    let v = c.args.value in
    let written = items-with_items r.values (set c.deref_mut.result.now r.next c.replace.new.dest) (length-set c.deref_mut.result.now r.next c.replace.new.dest ∙ ap length c.deref_mut.ensures.value) in
    let next : c.if-place-count.self ≡ cond (nat_lt (r.next + 1) (length r.values.items)) (r.next + 1) 0 = grind (arith, nat_tests) in
    let kept = push_ring r.next v r.values.items c.self.invariant in
    let oldest = oldest_newest v r.next r.values.items c.self.invariant in
    record { kept = cc; oldest = cc }
