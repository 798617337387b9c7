use Rattle.std.proofs.Common.{◌∙◌, ap, arith}
use Rattle.tso_machine.specs.Commands.{is_change}
use Rattle.tso_machine.proofs.Marking.{passed-more, taken-same}
use Rattle.tso_machine.proofs.command_queues.pass_moves.Goals as goal

pub loop-i-preserved : goal.loop-i-preserved
loop-i-preserved c = record {
  passed = passed-more c.args.commands.now c.loop-i.outcomes.items c.loop-i.i _ c.index-commands-i.result c.loop-i.invariant.passed c.loop-i-test.true
      (c.if-is_change.ensures ∙ ap is_change c.index-commands-i.is);
  taken = taken-same c.loop-i.outcomes.items c.loop-i.i (omega (arith, c.loop-i-test.true, c.loop-i.invariant.passed.room)) ∙ c.loop-i.invariant.taken;
}
