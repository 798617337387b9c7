use Rattle.std.proofs.Common.{◌≡◌, ◌+◌, ◌∷◌, drop, arith}
use Rattle.std.proofs.lemmas.Grind.{common_steps}
use Rattle.compute_blade.specs.Pages.{withdrawn}
use Rattle.compute_blade.proofs.Chains.{continues_start, continues_page, continues_done, left_so}
use Rattle.compute_blade.proofs.Keeping.{keeps_same, keeps_both}
use Rattle.compute_blade.proofs.blades.ComputeBlade.withdraw_each.Goals as goal

pub loop-page-init : goal.loop-page-init
loop-page-init c = (continues_start _ _ _, keeps_same _ c.requires)

pub loop-page-preserved : goal.loop-page-preserved
loop-page-preserved c =
    let here : drop c.loop-page.page-index c.args.pages.now ≡ c.page-item.result ∷ drop (c.loop-page.page-index + 1) c.args.pages.now = grind (arith, common_steps) in (
      continues_page (withdrawn c.args.what) c.args.pages.now c.loop-page.page-index c.page-item.result _ c.loop-page.self _ _ _ _ _ _ _ here c.loop-page.invariant.0 c.in_ok-withdraw.ensures.ok,
      keeps_both _ _ _ c.loop-page.invariant.1 c.in_ok-withdraw.ensures.keeps,
    )

pub returns-clause-ok : goal.returns-clause-ok
returns-clause-ok c = continues_done (withdrawn c.args.what) c.args.pages.now c.loop-page.page-index _ _ _ _ _ _ c.loop-page-test.false c.loop-page.invariant.0

pub returns-in_err-withdraw-clause-err : goal.returns-in_err-withdraw-clause-err
returns-in_err-withdraw-clause-err c = left_so _ _ _ _ _ _ _ _ _ c.loop-page.invariant.0 c.in_err-withdraw.ensures.err

pub returns-in_err-withdraw-clause-keeps : goal.returns-in_err-withdraw-clause-keeps
returns-in_err-withdraw-clause-keeps c = keeps_both _ _ _ c.loop-page.invariant.1 c.in_err-withdraw.ensures.keeps
