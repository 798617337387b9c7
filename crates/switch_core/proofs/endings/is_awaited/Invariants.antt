use Rattle.std.proofs.Common.{ℕ, ◌<◌, get_or}
use Rattle.invalidate_multicast.specs.Transition.{WaitsFor}
use Rattle.region_directory.specs.declared.entries.Entry.{Entry}
use Rattle.switch_core.proofs.endings.is_awaited.Given as goal

abbrev pub invariant-loop-i : goal.invariant-loop-i
invariant-loop-i l = (k : ℕ) (d : Entry) → k < l.i → WaitsFor l.number l.blade (get_or l.directory.entries k d).busy → ⊥
