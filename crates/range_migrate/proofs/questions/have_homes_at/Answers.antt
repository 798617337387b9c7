use Rattle.std.proofs.Common.{◌≡◌, ◌<◌, ◌^◌, sym, ap, ◌∙◌, subst}
use Rattle.mind_base.specs.Page.{PageView}
use Rattle.mind_base.specs.Home.{home_of}
use Rattle.range_migrate.specs.Plan.{block_page, is_at}
use Rattle.range_migrate.proofs.PlanFacts.{all_below-zero, all_below-more, all_below-fails}
use Rattle.range_migrate.proofs.questions.have_homes_at.Goals as goal

pub loop-n-init : goal.loop-n-init
loop-n-init c = all_below-zero (λ i. is_at c.args.memory (home_of c.args.table.now.homes (block_page c.args.range.now i)))

pub returns-then-not-is_at : goal.returns-then-not-is_at
returns-then-not-is_at c =
    let lower : c.loop-n.n < 2 ^ c.args.range.now.log = subst (λ k. c.loop-n.n < k) c.pages_in-n-end.ensures.pages c.loop-n-test.true in
    let place : c.home.result ≡ home_of c.args.table.now.homes (block_page c.args.range.now c.loop-n.n) = c.home.ensures ∙ ap (λ (page : PageView). home_of c.args.table.now.homes page) c.page_at.ensures in
    sym (all_below-fails (λ i. is_at c.args.memory (home_of c.args.table.now.homes (block_page c.args.range.now i))) (2 ^ c.args.range.now.log) c.loop-n.n lower
    (ap (is_at c.args.memory) (sym place) ∙ sym c.is_at.ensures ∙ c.if-not-is_at.true))

pub loop-n-preserved : goal.loop-n-preserved
loop-n-preserved c =
    let place : c.home.result ≡ home_of c.args.table.now.homes (block_page c.args.range.now c.loop-n.n) = c.home.ensures ∙ ap (λ (page : PageView). home_of c.args.table.now.homes page) c.page_at.ensures in
    all_below-more (λ i. is_at c.args.memory (home_of c.args.table.now.homes (block_page c.args.range.now i))) c.loop-n.n c.loop-n.invariant
    (ap (is_at c.args.memory) (sym place) ∙ sym c.is_at.ensures ∙ c.if-not-is_at.false)
