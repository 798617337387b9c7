use Rattle.std.proofs.Common.{◌∙◌, ◌+◌, ◌-◌, ◌/◌, [], ◌∷◌, length, arith, length-append, ap, sym}
use Rattle.std.proofs.lemmas.Result.{err_from_is_err_and}
use Rattle.wire_msg.specs.Reading.{granules_read}
use Rattle.wire_msg.proofs.GranuleSteps.{joined, granules-more, granules-fail, granules-done}
use Rattle.wire_msg.proofs.granules.granules.Goals as goal

pub returns-in_err-granule-clause-given : goal.returns-in_err-granule-clause-given
returns-in_err-granule-clause-given c =
    let from = err_from_is_err_and c.from_residual-in_err-granule.result c.from_residual-in_err-granule.ensures.1 in
    rw (from.1, from.2) (granules-fail c.in_err-granule.field-0.0 (granules_read 64 c.args.mask c.args.bytes.now) c.loop.counter c.loop.left c.loop.rest.now c.loop.page.items c.loop.tags.items (omega arith) c.loop.invariant.whole c.in_err-granule.ensures.given)

pub loop-preserved : goal.loop-preserved
loop-preserved c = record {
  whole = c.loop.invariant.whole
      ∙ granules-more c.loop.counter c.loop.left c.loop.rest.now c.loop.page.items c.loop.tags.items c.in_ok-granule.granule.now c.in_ok-granule.tag c.in_ok-granule.behind.now (omega arith) c.in_ok-granule.ensures.given
      ∙ (λ i. joined (sym c.in_ok-extend_from_slice.ensures.items i) (sym c.in_ok-push.ensures.items i) (granules_read (64 - (c.loop.counter + 1)) (c.loop.left / 2) c.in_ok-granule.behind.now));
  sized = ap length c.in_ok-extend_from_slice.ensures.items ∙ omega (arith, length-append c.loop.page.items c.in_ok-granule.granule.now, c.loop.invariant.sized, c.in_ok-granule.ensures.sized);
  counted = ap length c.in_ok-push.ensures.items ∙ omega (arith, length-append c.loop.tags.items (c.in_ok-granule.tag ∷ []), c.loop.invariant.counted);
}

pub returns-clause-given : goal.returns-clause-given
returns-clause-given c = c.loop.invariant.whole ∙ granules-done c.loop.counter c.loop.left c.loop.rest.now c.loop.page.items c.loop.tags.items (omega arith)
