use Rattle.std.proofs.Common.{◌∙◌, sym, arith}
use Rattle.tso_machine.proofs.Waiting.{past-threads}
use Rattle.tso_machine.proofs.changes.is_buffered.Goals as goal

pub returns : goal.returns
returns c = rw (← c.as_slice-threads.ensures) (sym (c.loop-i.invariant ∙ past-threads c.args.span.now c.as_slice-threads.result.now c.args.harts.now c.loop-i.i (omega (arith, c.loop-i-test.false, c.min-i-end.ensures))))
