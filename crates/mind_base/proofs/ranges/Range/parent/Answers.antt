use Rattle.std.proofs.Common.{arith}
use Rattle.mind_base.proofs.Blocks.{parent-fits}
use Rattle.mind_base.proofs.ranges.Range.parent.Goals as goal

pub invariant_of-result : goal.invariant_of-result
invariant_of-result c = let i = c.self.invariant in
    (i.0, omega arith, omega arith, parent-fits _ i.2 _)
