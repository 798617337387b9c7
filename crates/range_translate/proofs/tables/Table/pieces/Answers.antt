use Rattle.std.proofs.Common.{◌≡◌, ℕ, ◌+◌, Option, Some, ap, sym, ◌∙◌, arith}
use Rattle.mind_base.specs.Page.{PageView}
use Rattle.mind_base.specs.Span.{SpanView}
use Rattle.range_translate.specs.Place.{physical_place}
use Rattle.range_translate.proofs.PieceLemmas.{all-seen, exactly, few, short}
use Rattle.range_translate.proofs.PieceSteps.{one_page_more}
use Rattle.range_translate.proofs.tables.Table.pieces.Goals as goal

page_of : SpanView → ℕ → PageView
page_of span i = record { domain = span.domain; number = span.base + i }

pub loop-i-preserved : goal.loop-i-preserved
unfolding page_of
loop-i-preserved c =
    let place : PageView → Option (ℕ × ℕ) = physical_place c.args.self.now.homes c.args.self.now.outliers in
    let span = c.args.span.now in
    let here : place (page_of span c.loop-i.i) ≡ Some (c.in-Some.memory, c.in-Some.number)
    = ap (λ (s : SpanView). place (page_of s c.loop-i.i)) (sym c.span.view_is) ∙ sym c.in-Some.ensures.place in
    record {
      places = one_page_more place span.domain span.base c.loop-i.i c.in-Some.memory c.in-Some.number _ _ c.loop-i.invariant.places c.in_ok-add_place.ensures.places here;
      longest = c.in_ok-add_place.ensures.longest;
    }

pub returns-clause-exact : goal.returns-clause-exact
returns-clause-exact c =
    let place : PageView → Option (ℕ × ℕ) = physical_place c.args.self.now.homes c.args.self.now.outliers in
    let pages : c.span.inside.pages ≡ c.args.span.now.pages = ap (λ (s : SpanView). s.pages) c.span.view_is in
    let all : c.loop-i.i ≡ c.args.span.now.pages = omega (arith, pages, c.loop-i.auto.i-end, c.loop-i-test.false) in
    exactly place c.args.span.now c.loop-i.found.items (all-seen place c.args.span.now c.loop-i.i c.loop-i.found.items c.loop-i.invariant.places all) c.loop-i.invariant.longest

pub returns-clause-few : goal.returns-clause-few
returns-clause-few c =
    let place : PageView → Option (ℕ × ℕ) = physical_place c.args.self.now.homes c.args.self.now.outliers in
    let pages : c.span.inside.pages ≡ c.args.span.now.pages = ap (λ (s : SpanView). s.pages) c.span.view_is in
    let all : c.loop-i.i ≡ c.args.span.now.pages = omega (arith, pages, c.loop-i.auto.i-end, c.loop-i-test.false) in
    few place c.args.span.now c.loop-i.found.items (all-seen place c.args.span.now c.loop-i.i c.loop-i.found.items c.loop-i.invariant.places all) c.loop-i.invariant.longest

pub returns-clause-short : goal.returns-clause-short
returns-clause-short c =
    let place : PageView → Option (ℕ × ℕ) = physical_place c.args.self.now.homes c.args.self.now.outliers in
    let pages : c.span.inside.pages ≡ c.args.span.now.pages = ap (λ (s : SpanView). s.pages) c.span.view_is in
    let all : c.loop-i.i ≡ c.args.span.now.pages = omega (arith, pages, c.loop-i.auto.i-end, c.loop-i-test.false) in
    short place c.args.span.now c.loop-i.found.items (all-seen place c.args.span.now c.loop-i.i c.loop-i.found.items c.loop-i.invariant.places all) c.loop-i.invariant.longest
