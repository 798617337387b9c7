use Rattle.std.proofs.Common.{◌≡◌, ◌++◌, take}
use Rattle.report_text.specs.CommandLine.{command_outcome, command_lines_from}
use Rattle.report_text.proofs.commands.put_commands.Given as goal

abbrev pub invariant-loop-i : goal.invariant-loop-i
invariant-loop-i l = l.out.items ≡ l.fn.out.items ++ command_lines_from (command_outcome l.machine.taken l.log.notes) 0 (take l.i l.commands)
