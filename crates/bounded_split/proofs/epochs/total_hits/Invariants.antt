use Rattle.std.proofs.Common.{◌≡◌, ◌≤◌, ◌*◌, take}
use Rattle.bounded_split.specs.Epoch.{total_hits}
use Rattle.bounded_split.proofs.epochs.total_hits.Given as goal

abbrev pub invariant-loop-i : goal.invariant-loop-i
invariant-loop-i l = (l.total ≡ total_hits (take l.i l.directory.entries)) × (l.total ≤ l.i * 4294967295)
