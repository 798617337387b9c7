use Rattle.std.proofs.Common.{arith}
use Rattle.mind_base.proofs.Blocks.{lower-fits, upper-fits}
use Rattle.mind_base.proofs.ranges.Range.halves.Goals as goal

pub invariant_of-lower : goal.invariant_of-lower
invariant_of-lower c = let i = c.self.invariant in
    (i.0, i.1, omega arith, lower-fits _ i.2 _ c.if-self-eq0.false i.3)

pub invariant_of-upper : goal.invariant_of-upper
invariant_of-upper c = let i = c.self.invariant in
    let u = upper-fits _ i.2 _ c.if-self-eq0.false i.1 i.3 in (i.0, u.0, omega arith, u.1)
