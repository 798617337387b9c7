use Rattle.std.proofs.Common.{◌≡◌, sym, ap, ◌∙◌, arith}
use Rattle.mind_base.specs.Page.{PageView}
use Rattle.range_migrate.specs.declared.moves.Move.{Move}
use Rattle.range_migrate.proofs.Pools.{run-few}
use Rattle.range_migrate.proofs.copies.target_of.Goals as goal

pub overflow_add-base : goal.overflow_add-base
overflow_add-base c =
    let few = run-few c.args.table.now.homes c.args.step.now c.args.step.now.run c.in-Some.first c.spare_base.ensures.table.spare (sym (ap (λ (m : Move). m.run) c.step.view_is) ∙ c.in-Some.is) c.requires.run in
    omega (arith, few, c.spare_base.ensures.few)

pub overflow_add-result : goal.overflow_add-result
overflow_add-result c =
    let few = run-few c.args.table.now.homes c.args.step.now c.args.step.now.run c.in-Some.first c.spare_base.ensures.table.spare (sym (ap (λ (m : Move). m.run) c.step.view_is) ∙ c.in-Some.is) c.requires.run in
    let number : c.page.inside.number ≡ c.args.page.number = ap (λ (p : PageView). p.number) c.page.view_is in
    let base : c.step.inside.0.0.base ≡ c.args.step.now.range.base = ap (λ (m : Move). m.range.base) c.step.view_is in
    omega (arith, few, c.spare_base.ensures.few, number, base, c.requires.in_block.from, c.requires.in_block.below)
