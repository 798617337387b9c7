use Rattle.std.proofs.Common.{take}
use Rattle.report_text.specs.ThreadLine.{thread_lines}
use Rattle.report_text.proofs.Lines.{line-more, grown}
use Rattle.report_text.proofs.threads.put_threads.Goals as goal

pub loop-hart-preserved : goal.loop-hart-preserved
loop-hart-preserved c = grown c.args.out.now.items c.loop-hart.out.items _ (thread_lines (take c.loop-hart.hart c.args.machine.now.threads)) _ _
    c.in_ok-put_thread.ensures c.loop-hart.invariant (line-more c.args.machine.now.threads c.loop-hart.hart _ _ c.end.ensures c.output.ensures)
