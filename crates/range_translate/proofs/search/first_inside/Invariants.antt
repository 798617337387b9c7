use Rattle.std.proofs.Common.{◌≡◌, drop}
use Rattle.std.specs.List.{find}
use Rattle.range_translate.specs.Block.{block_lies_inside}
use Rattle.range_translate.proofs.search.first_inside.Given as goal

abbrev pub invariant-loop-outlier : goal.invariant-loop-outlier
invariant-loop-outlier l = find (λ o. block_lies_inside o.range l.range) (drop l.outlier-index l.outliers) ≡ find (λ o. block_lies_inside o.range l.range) l.outliers
