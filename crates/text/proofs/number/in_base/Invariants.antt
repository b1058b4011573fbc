use Rattle.std.proofs.Common.{◌≡◌, ◌^◌, ◌<◌, drop}
use Rattle.text.specs.Decimals.{digits_after, below, digits_of}
use Rattle.text.proofs.number.in_base.Given as goal

abbrev pub invariant-loop-b : goal.invariant-loop-b
invariant-loop-b l = (l.value < 2 ^ 32) × (below (2 ^ 32) (digits_after l.base l.value (drop l.b-index l.digits)) ≡ below (2 ^ 32) (digits_of l.base l.digits))
