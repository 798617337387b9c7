use Rattle.std.proofs.Common.{arith}
use Rattle.range_translate.proofs.tables.Table.count.Goals as goal

pub overflow_cast-result : goal.overflow_cast-result
overflow_cast-result c = let i = c.self.invariant.0 in omega (arith, i.limit, i.within, c.self.inside.outliers.ok.0)
