use Rattle.std.proofs.Common.{◌≡◌, ◌++◌, take, drop}
use Rattle.tso_machine.specs.Commands.{threads_outside}
use Rattle.tso_machine.proofs.changes.end_reservations_in.Given as goal

abbrev pub invariant-loop-i : goal.invariant-loop-i
invariant-loop-i l = l.harts.items ≡ threads_outside l.span (take l.i l.initial.harts.items) ++ drop l.i l.initial.harts.items
