use Rattle.std.proofs.Common.{◌≤◌, take}
use Rattle.tso_machine.proofs.Runs.{Follows}
use Rattle.tso_machine.proofs.machines.Machine.replay.Given as goal

abbrev pub invariant-loop-i : goal.invariant-loop-i
invariant-loop-i l = Follows l.fn.self l.self (take l.i l.log.notes) l.taken × (l.taken ≤ l.i)
