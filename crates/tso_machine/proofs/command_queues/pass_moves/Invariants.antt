use Rattle.std.proofs.Common.{◌≡◌, take}
use Rattle.tso_machine.specs.Queue.{taken_commands, IsPassed}
use Rattle.tso_machine.proofs.command_queues.pass_moves.Given as goal

abbrev pub invariant-loop-i : goal.invariant-loop-i
invariant-loop-i l = record {
  passed : IsPassed l.commands l.outcomes.items l.i;
  taken : taken_commands 0 (take l.i l.outcomes.items) ≡ taken_commands 0 (take l.from l.initial.outcomes.items);
}
