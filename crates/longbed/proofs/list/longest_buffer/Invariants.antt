use Rattle.std.proofs.Common.{◌≤◌, take, All}
use Rattle.script.specs.Readings.{line_means}
use Rattle.longbed.specs.Callings.{buffer_of}
use Rattle.longbed.proofs.list.longest_buffer.Given as goal

abbrev pub invariant-loop-entry : goal.invariant-loop-entry
invariant-loop-entry l = All (λ e. buffer_of (line_means e.line) ≤ l.longest) (take l.entry-index l.entries)
