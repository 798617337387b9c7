use Rattle.std.proofs.Common.{refl, arith, [], append-nil, sym}
use Rattle.wire_msg.proofs.GranuleSteps.{for-err, written-more, more-behind, written-all}
use Rattle.wire_msg.proofs.granules.put_granules.Goals as goal

pub loop-g-init : goal.loop-g-init
loop-g-init c = record { to_do = refl; done = ([], sym (append-nil _)) }

pub loop-g-preserved : goal.loop-g-preserved
loop-g-preserved c = record {
  to_do = written-more c.args.bytes.now c.args.tags.now c.loop-g.g c.args.out.now.items c.loop-g.out.items _ (omega (arith, c.requires.tags)) c.loop-g.invariant.to_do c.in_ok-put_granule.ensures.ok;
  done = more-behind c.args.out.now.items c.loop-g.out.items _ _ c.in_ok-put_granule.ensures.ok c.loop-g.invariant.done;
}

pub returns-clause-ok : goal.returns-clause-ok
returns-clause-ok c = written-all c.args.bytes.now c.args.tags.now c.loop-g.g c.args.out.now.items c.loop-g.out.items (omega (arith, c.requires.tags)) c.loop-g.invariant.to_do

pub returns-in_err-put_granule-clause-err : goal.returns-in_err-put_granule-clause-err
returns-in_err-put_granule-clause-err c =
    let part = c.in_err-put_granule.ensures.err in
    for-err _ c.from_residual.result (more-behind c.args.out.now.items c.loop-g.out.items c.put_granule.new.out.items part.0 part.1 c.loop-g.invariant.done)
