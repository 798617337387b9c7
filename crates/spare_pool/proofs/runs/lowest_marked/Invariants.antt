use Rattle.std.proofs.Common.{ℕ, ◌*◌, ◌<◌}
use Rattle.spare_pool.specs.Marks.{AllMarked}
use Rattle.spare_pool.proofs.runs.lowest_marked.Given as goal

abbrev pub invariant-loop-block : goal.invariant-loop-block
invariant-loop-block l = (k : ℕ) → k < l.block → AllMarked l.marks (k * l.size) l.size → ⊥
