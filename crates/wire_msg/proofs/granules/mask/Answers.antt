use Rattle.std.proofs.Common.{◌+◌, arith}
use Rattle.wire_msg.proofs.GranuleSteps.{mask-none, mask-more, mask-fits}
use Rattle.wire_msg.proofs.granules.mask.Goals as goal

pub loop-i-init : goal.loop-i-init
loop-i-init c = (mask-none c.args.bytes.now c.args.tags.now c.requires.tags, λ h. omega arith)

pub loop-i-preserved : goal.loop-i-preserved
loop-i-preserved c =
    let more = mask-more c.args.bytes.now c.args.tags.now c.loop-i.i c.bit.result c.loop-i.mask (omega arith) c.requires.tags c.bit.ensures c.loop-i.invariant.0 in
    (more, λ h. mask-fits c.args.bytes.now c.args.tags.now (c.loop-i.i + 1) _ h c.requires.tags more)
