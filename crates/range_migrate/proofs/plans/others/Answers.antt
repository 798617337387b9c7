use Rattle.std.proofs.Common.{arith}
use Rattle.std.proofs.lemmas.List.Sums.{length-filter}
use Rattle.range_translate.specs.Block.{block_lies_inside}
use Rattle.range_translate.specs.declared.outliers.Outlier.{Outlier}
use Rattle.range_migrate.proofs.Counting.{parts_of_all}
use Rattle.range_migrate.proofs.plans.others.Goals as goal

pub returns : goal.returns
returns c =
    let inside = λ (o : Outlier). block_lies_inside o.range c.args.range.now in
    let parts = parts_of_all inside c.args.table.now.outliers in
    let counted = length-filter inside c.args.table.now.outliers in
    omega (arith, parts, counted, c.count.ensures, c.inside.ensures)
