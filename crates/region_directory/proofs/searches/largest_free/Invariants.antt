use Rattle.std.proofs.Common.{◌≡◌, ℕ, ◌<◌, ◌≤◌}
use Rattle.region_directory.specs.Block.{block_of}
use Rattle.region_directory.specs.Entry.{largest_free, MeetsNone}
use Rattle.region_directory.proofs.searches.largest_free.Given as goal

abbrev pub invariant-loop-size : goal.invariant-loop-size
invariant-loop-size l =
    (l.size ≤ l.log) × ((k : ℕ) → l.size < k → k ≤ l.log → MeetsNone l.entries (block_of l.page k) → ⊥) × (largest_free l.entries l.page l.size ≡ largest_free l.entries l.page l.log)

abbrev pub decreases-loop-size : goal.decreases-loop-size
decreases-loop-size l = l.size
