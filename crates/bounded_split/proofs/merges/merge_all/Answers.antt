use Rattle.std.proofs.Common.{◌<◌, length, arith}
use Rattle.bounded_split.specs.Epoch.{cold_at}
use Rattle.bounded_split.proofs.Merging.{merging-step, merging-smaller, noted-few}
use Rattle.bounded_split.proofs.merges.merge_all.Goals as goal

pub overflow_add-merges : goal.overflow_add-merges
overflow_add-merges g c =
    omega (arith, c.loop-i.invariant.few, c.merge_cold-merges.ensures.turned.count, noted-few (cold_at c.args.policy.now.threshold c.loop-i.directory c.loop-i.i), c.loop-i-test.true)

pub loop-i-smaller : goal.loop-i-smaller
loop-i-smaller g c =
    let lt : c.loop-i.i < length c.loop-i.directory.entries = omega (arith, c.len.ensures.len, c.loop-i-test.true) in
    merging-smaller c.args.policy.now.threshold c.loop-i.directory c.merge_cold-merges.new.directory c.loop-i.i lt c.merge_cold-merges.ensures.turned.changed

pub loop-i-preserved : goal.loop-i-preserved
loop-i-preserved g c =
    let lt : c.loop-i.i < length c.loop-i.directory.entries = omega (arith, c.len.ensures.len, c.loop-i-test.true) in
    merging-step c.args.policy.now.threshold c.args.directory.now c.loop-i.directory c.merge_cold-merges.new.directory c.args.log.now.notes c.loop-i.log.notes c.merge_cold-merges.new.log.notes c.loop-i.log.spare c.merge_cold-merges.new.log.spare c.loop-i.i c.loop-i.merges c.merge_cold-merges.result
    c.loop-i.invariant lt c.merge_cold-merges.ensures.turned.changed c.merge_cold-merges.ensures.turned.notes c.merge_cold-merges.ensures.turned.count c.merge_cold-merges.ensures.spare
