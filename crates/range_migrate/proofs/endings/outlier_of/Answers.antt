use Rattle.std.proofs.Common.{ℕ, ◌+◌, sym, ap, arith}
use Rattle.range_translate.specs.declared.outliers.Outlier.{Outlier}
use Rattle.range_migrate.proofs.Pools.{run-there, spare-few, base-is}
use Rattle.range_migrate.proofs.endings.outlier_of.Goals as goal

pub spare_base-requires : goal.spare_base-requires
spare_base-requires c =
    let step = c.args.step.now in
    run-there c.args.table.now.homes step.memory step.range.log c.args.first c.requires.run

pub overflow_add-result : goal.overflow_add-result
overflow_add-result c =
    let run = c.requires.run in
    let few = spare-few c.args.table.now.homes c.args.step.now.memory c.spare_base.ensures.table.spare in
    omega (arith, run, few, c.spare_base.ensures.few)

pub returns-clause-outlier : goal.returns-clause-outlier
returns-clause-outlier c =
    let step = c.args.step.now in
    ap (λ (n : ℕ). let o : Outlier = record { range = step.range; memory = step.memory; first = n + c.args.first } in o)
    (sym (base-is c.args.table.now.homes step.memory c.spare_base.result c.spare_base.ensures.pages))

pub returns-clause-fits : goal.returns-clause-fits
returns-clause-fits c =
    let run = c.requires.run in
    let few = spare-few c.args.table.now.homes c.args.step.now.memory c.spare_base.ensures.table.spare in
    omega (arith, run, few, c.spare_base.ensures.few)
