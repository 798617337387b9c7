use Rattle.std.proofs.Common.{◌≡◌, drop}
use Rattle.std.specs.List.{find}
use Rattle.mind_base.specs.Range.{same_range}
use Rattle.range_translate.proofs.search.with_range.Given as goal

abbrev pub invariant-loop-outlier : goal.invariant-loop-outlier
invariant-loop-outlier l = find (λ o. same_range o.range l.range) (drop l.outlier-index l.outliers) ≡ find (λ o. same_range o.range l.range) l.outliers
