use Rattle.std.proofs.Common.{◌<◌, length, arith}
use Rattle.bounded_split.proofs.Splitting.{splitting-step}
use Rattle.bounded_split.proofs.splits.split_all.Goals as goal

pub loop-i-preserved : goal.loop-i-preserved
loop-i-preserved g c =
    let lt : c.loop-i.i < length c.loop-i.directory.entries = omega (arith, c.len.ensures.len, c.loop-i-test.true) in
    splitting-step c.args.policy.now.threshold c.args.directory.now c.loop-i.directory c.split_hot-halved.new.directory c.args.log.now.notes c.loop-i.log.notes c.split_hot-halved.new.log.notes c.loop-i.log.spare c.split_hot-halved.new.log.spare c.loop-i.i c.loop-i.splits c.split_hot-halved.result
    c.loop-i.invariant lt c.split_hot-halved.ensures.turned.changed c.split_hot-halved.ensures.turned.notes c.split_hot-halved.ensures.turned.count c.split_hot-halved.ensures.spare
