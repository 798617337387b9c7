use Rattle.std.proofs.Common.{◌≡◌, ℕ, ◌<◌, None, get_or}
use Rattle.region_directory.specs.declared.entries.Entry.{Entry}
use Rattle.switch_core.proofs.endings.is_idle.Given as goal

abbrev pub invariant-loop-i : goal.invariant-loop-i
invariant-loop-i l = (k : ℕ) (d : Entry) → k < l.i → (get_or l.directory.entries k d).busy ≡ None
