use Rattle.std.proofs.Common.{◌≡◌, ◌≤◌, [], length}
use Rattle.coded.specs.Calls.{IsStuck}
use Rattle.coded.specs.declared.run.Unmade.TheVariants.{Unreadable, NoRoom}
use Rattle.coded.proofs.run.run_over.Given as goal

-- where the first call cannot be made nothing is written, and there is no second turn
abbrev pub invariant-loop-rest : goal.invariant-loop-rest
invariant-loop-rest g l = record {
  room : l.at ≤ length l.out;
  unreadable : IsStuck l.calls (length l.initial.out) Unreadable → (l.rest ≡ l.calls) × (l.out ≡ l.initial.out) × (l.at ≡ 0);
  crowded : IsStuck l.calls (length l.initial.out) NoRoom → (l.rest ≡ l.calls) × (l.out ≡ l.initial.out) × (l.at ≡ 0);
  none : l.calls ≡ [] → (l.rest ≡ []) × (l.out ≡ l.initial.out);
}

abbrev pub decreases-loop-rest : goal.decreases-loop-rest
decreases-loop-rest g l = length l.rest
