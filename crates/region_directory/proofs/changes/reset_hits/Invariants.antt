use Rattle.std.proofs.Common.{◌≡◌, ◌++◌, map, take, drop, vec_capacity}
use Rattle.region_directory.specs.Entry.{with_hits}
use Rattle.region_directory.proofs.changes.reset_hits.Given as goal

abbrev pub invariant-loop-i : goal.invariant-loop-i
invariant-loop-i l =
    (l.entries.items ≡ map (with_hits 0) (take l.i l.initial.entries.items) ++ drop l.i l.initial.entries.items) × (vec_capacity l.entries ≡ vec_capacity l.initial.entries)
