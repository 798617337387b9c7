use Rattle.std.proofs.Common.{◌≡◌, ◌≤◌, drop, length}
use Rattle.range_translate.specs.Place.{smallest_of}
use Rattle.range_translate.proofs.search.smallest_of.Given as goal

abbrev pub invariant-loop-left : goal.invariant-loop-left
invariant-loop-left l = (l.left ≤ length l.outliers) × (l.best ≡ smallest_of (drop l.left l.outliers) l.page)

abbrev pub decreases-loop-left : goal.decreases-loop-left
decreases-loop-left l = l.left
