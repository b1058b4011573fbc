use Rattle.std.proofs.Common.{◌≡◌, ◌++◌, map, replicate}
use Rattle.law.specs.Calls.{Tick}
use Rattle.runs.specs.Journals.{call_means}
use Rattle.longbed.proofs.list.add_ticks.Given as goal

abbrev pub invariant-loop-i : goal.invariant-loop-i
invariant-loop-i l = map call_means l.calls.items ≡ map call_means l.initial.calls.items ++ replicate l._i Tick
