use Rattle.std.proofs.Common.{◌≡◌, ◌++◌, take, drop}
use Rattle.tso_machine.specs.Step.{threads_off}
use Rattle.tso_machine.proofs.machines.end_reservations.Given as goal

abbrev pub invariant-loop-i : goal.invariant-loop-i
invariant-loop-i l = l.harts.items ≡ threads_off l.granule (take l.i l.initial.harts.items) ++ drop l.i l.initial.harts.items
