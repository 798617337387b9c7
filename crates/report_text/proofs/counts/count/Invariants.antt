use Rattle.std.proofs.Common.{◌≡◌, ◌≤◌, take}
use Rattle.report_text.specs.Counts.{count_of}
use Rattle.report_text.proofs.counts.count.Given as goal

abbrev pub invariant-loop-i : goal.invariant-loop-i
invariant-loop-i l = (l.count ≡ count_of l.kind (take l.i l.log.notes)) × (l.count ≤ l.i)
