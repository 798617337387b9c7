use Rattle.std.proofs.Common.{length}
use Rattle.range_migrate.proofs.Removing.{Removal}
use Rattle.range_migrate.proofs.endings.remove_inside.Given as goal

abbrev pub invariant-loop-outlier : goal.invariant-loop-outlier
invariant-loop-outlier l = Removal l.range l.initial.table l.initial.pools.items l.table l.pools.items

abbrev pub decreases-loop-outlier : goal.decreases-loop-outlier
decreases-loop-outlier l = length l.table.outliers
