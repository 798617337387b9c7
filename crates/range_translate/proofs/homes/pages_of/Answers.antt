use Rattle.std.proofs.Common.{ap, subst, arith}
use Rattle.std.proofs.lemmas.List.{take_all}
use Rattle.mind_base.specs.Span.{SpanView}
use Rattle.range_translate.specs.Place.{pages_of}
use Rattle.range_translate.proofs.Apart.{IsSpanView, read_one}
use Rattle.range_translate.proofs.homes.pages_of.Goals as goal

pub overflow_add-pages : goal.overflow_add-pages
overflow_add-pages c =
    let r = read_one c.args.homes.now c.loop-span.span-index c.loop-span.pages c.span-item.result c.requires c.loop-span-test.true c.span-item.is
    (subst IsSpanView c.span.view_is c.span.invariant) c.loop-span.invariant.spans c.loop-span.invariant.sum in
    omega (arith, r.few, ap (λ (s : SpanView). s.pages) c.span.view_is)

pub loop-span-preserved : goal.loop-span-preserved
loop-span-preserved c =
    let r = read_one c.args.homes.now c.loop-span.span-index c.loop-span.pages c.span-item.result c.requires c.loop-span-test.true c.span-item.is
    (subst IsSpanView c.span.view_is c.span.invariant) c.loop-span.invariant.spans c.loop-span.invariant.sum in
    record { spans = r.spans; sum = omega (arith, r.sum, ap (λ (s : SpanView). s.pages) c.span.view_is); few = omega (arith, r.few, ap (λ (s : SpanView). s.pages) c.span.view_is) }

pub returns-clause-pages : goal.returns-clause-pages
returns-clause-pages c = omega (arith, c.loop-span.invariant.sum, ap pages_of (take_all c.loop-span.span-index c.args.homes.now (omega arith)))
