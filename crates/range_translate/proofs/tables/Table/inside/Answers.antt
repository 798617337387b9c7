use Rattle.std.proofs.Common.{arith, ap, length}
use Rattle.std.proofs.lemmas.List.Sums.{count_by-le-length}
use Rattle.range_translate.specs.Block.{block_lies_inside}
use Rattle.range_translate.specs.declared.outliers.Outlier.{Outlier}
use Rattle.range_translate.proofs.tables.Table.inside.Goals as goal

pub overflow_cast-result : goal.overflow_cast-result
overflow_cast-result c = let i = c.self.invariant.0 in
    omega (arith, i.limit, i.within, c.count_inside.ensures, count_by-le-length (λ (o : Outlier). block_lies_inside o.range c.args.range.now) c.as_slice.result.now, ap length c.as_slice.ensures.value)
