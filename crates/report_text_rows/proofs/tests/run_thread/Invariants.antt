use Rattle.std.proofs.Common.{◌≡◌}
use Rattle.report_text_rows.proofs.tests.run_thread.Given as goal

abbrev pub invariant-loop-i : goal.invariant-loop-i
invariant-loop-i l = l.machine.setup ≡ l.fn.machine.setup
