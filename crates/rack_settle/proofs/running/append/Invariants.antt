use Rattle.std.specs.Prelude.{◌≡◌, ◌≤◌, ◌+◌, ◌++◌, length, take}
use Rattle.rack_settle.proofs.running.append.Given as goal

abbrev pub invariant-loop-i : goal.invariant-loop-i
invariant-loop-i l = (l.log.notes ≡ l.fn.log.notes ++ take l.i l.notes.notes) × (length l.notes.notes ≤ l.log.spare + l.i)
