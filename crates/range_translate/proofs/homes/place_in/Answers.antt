use Rattle.std.proofs.Common.{◌≡◌, ◌+◌, ◌-◌, ℕ, List, drop, Some, None, false, ap, subst, sym, ◌∙◌, arith, refl}
use Rattle.std.proofs.lemmas.List.{at_drop_all}
use Rattle.std.proofs.lemmas.Bool.{false≢true}
use Rattle.mind_base.specs.Page.{PageView}
use Rattle.mind_base.specs.Span.{SpanView, InSpan, in_span}
use Rattle.mind_base.specs.Home.{number_in_homes}
use Rattle.range_translate.proofs.Apart.{IsSpanView, read_one}
use Rattle.range_translate.proofs.HomeSteps.{found_in, not_in, shifted, not_in_span}
use Rattle.range_translate.proofs.homes.place_in.Goals as goal

pub overflow_add-result : goal.overflow_add-result
overflow_add-result c =
    let r = read_one c.args.homes.now c.loop-span.span-index c.loop-span.before c.span-item.result c.requires c.loop-span-test.true c.span-item.is
    (subst IsSpanView c.span.view_is c.span.invariant) c.loop-span.invariant.spans c.loop-span.invariant.sum in
    let has = c.if-has.ensures.has.0 refl in
    omega (arith, r.few, has.below, has.from, ap (λ (s : SpanView). s.pages) c.span.view_is, ap (λ (s : SpanView). s.base) c.span.view_is, ap (λ (p : PageView). p.number) c.page.view_is)

pub overflow_add-before : goal.overflow_add-before
overflow_add-before c =
    let r = read_one c.args.homes.now c.loop-span.span-index c.loop-span.before c.span-item.result c.requires c.loop-span-test.true c.span-item.is
    (subst IsSpanView c.span.view_is c.span.invariant) c.loop-span.invariant.spans c.loop-span.invariant.sum in
    omega (arith, r.few, ap (λ (s : SpanView). s.pages) c.span.view_is)

pub returns-then-has-clause-place : goal.returns-then-has-clause-place
returns-then-has-clause-place c =
    let page = c.loop-span.invariant.page in
    let has : InSpan c.span-item.result c.args.page = subst (λ (p : PageView). InSpan c.span-item.result p) page (c.if-has.ensures.has.0 refl) in
    let number : c.page.inside.number ≡ c.args.page.number = ap (λ (p : PageView). p.number) (c.page.view_is ∙ page) in
    let base : c.span.inside.base ≡ c.span-item.result.base = ap (λ (s : SpanView). s.base) c.span.view_is in
    let same : c.loop-span.before + (c.page.inside.number - c.span.inside.base) ≡ c.loop-span.before + (c.args.page.number - c.span-item.result.base) = cc in
    ap (λ (n : ℕ). Some n) same
    ∙ found_in c.args.homes.now c.loop-span.span-index c.loop-span.before c.span-item.result c.args.page c.loop-span-test.true c.span-item.is has c.loop-span.invariant.rest

pub loop-span-preserved : goal.loop-span-preserved
loop-span-preserved c =
    let r = read_one c.args.homes.now c.loop-span.span-index c.loop-span.before c.span-item.result c.requires c.loop-span-test.true c.span-item.is
    (subst IsSpanView c.span.view_is c.span.invariant) c.loop-span.invariant.spans c.loop-span.invariant.sum in
    let page = c.loop-span.invariant.page in
    let pages : c.span.inside.pages ≡ c.span-item.result.pages = ap (λ (s : SpanView). s.pages) c.span.view_is in
    let hasnt : in_span c.span-item.result c.args.page ≡ false = not_in_span c.span-item.result c.args.page
    (λ h. false≢true (c.if-has.ensures.has.1 (subst (λ (p : PageView). InSpan c.span-item.result p) (sym page) h))) in
    record {
      spans = r.spans;
      sum = omega (arith, r.sum, pages);
      page = page;
      rest = ap (λ (n : ℕ). shifted (c.loop-span.before + n) (number_in_homes (drop (c.loop-span.span-index + 1) c.args.homes.now) c.args.page)) pages
          ∙ not_in c.args.homes.now c.loop-span.span-index c.loop-span.before c.span-item.result c.args.page c.loop-span-test.true c.span-item.is hasnt c.loop-span.invariant.rest;
    }

pub returns-clause-place : goal.returns-clause-place
returns-clause-place c =
    let at_none : shifted c.loop-span.before (number_in_homes (drop c.loop-span.span-index c.args.homes.now) c.args.page) ≡ None
    = ap (shifted c.loop-span.before) (at_drop_all (λ (hs : List SpanView). number_in_homes hs c.args.page) c.args.homes.now c.loop-span.span-index c.loop-span-test.false) in
    sym at_none ∙ c.loop-span.invariant.rest

pub returns-then-has-clause-few : goal.returns-then-has-clause-few
returns-then-has-clause-few c =
    let r = read_one c.args.homes.now c.loop-span.span-index c.loop-span.before c.span-item.result c.requires c.loop-span-test.true c.span-item.is
    (subst IsSpanView c.span.view_is c.span.invariant) c.loop-span.invariant.spans c.loop-span.invariant.sum in
    let has = c.if-has.ensures.has.0 refl in
    omega (arith, r.few, has.below, has.from, ap (λ (s : SpanView). s.pages) c.span.view_is, ap (λ (s : SpanView). s.base) c.span.view_is, ap (λ (p : PageView). p.number) c.page.view_is)
