use Rattle.std.proofs.Common.{◌≡◌, ◌++◌, take}
use Rattle.report_text.specs.ThreadLine.{thread_lines}
use Rattle.report_text.proofs.threads.put_threads.Given as goal

abbrev pub invariant-loop-hart : goal.invariant-loop-hart
invariant-loop-hart l = l.out.items ≡ l.fn.out.items ++ thread_lines (take l.hart l.machine.threads)
