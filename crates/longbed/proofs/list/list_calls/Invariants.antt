use Rattle.std.proofs.Common.{◌≡◌, map, take}
use Rattle.std.specs.Prelude.{flat_map}
use Rattle.runs.specs.Journals.{call_means}
use Rattle.longbed.specs.Callings.{entry_calls}
use Rattle.longbed.proofs.list.list_calls.Given as goal

abbrev pub invariant-loop-entry : goal.invariant-loop-entry
invariant-loop-entry l = map call_means l.calls.items ≡ flat_map entry_calls (take l.entry-index l.entries)
