use Rattle.std.proofs.Common.{◌≡◌, ◌++◌, take}
use Rattle.std.specs.List.{flat_map}
use Rattle.switch_core.specs.Handling.{noted_end}
use Rattle.switch_core.proofs.endings.note_all.Given as goal

abbrev pub invariant-loop-i : goal.invariant-loop-i
invariant-loop-i l = l.log.notes ≡ l.initial.log.notes ++ flat_map noted_end (take l.i l.directory.entries)
