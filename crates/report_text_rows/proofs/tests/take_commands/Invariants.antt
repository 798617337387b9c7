use Rattle.std.proofs.Common.{◌≡◌}
use Rattle.report_text_rows.proofs.tests.take_commands.Given as goal

abbrev pub invariant-loop-index : goal.invariant-loop-index
invariant-loop-index l = l.machine.setup ≡ l.fn.machine.setup
