use Rattle.std.proofs.Common.{arith}
use Rattle.rack_net.proofs.Noting.{marked-in, marked-out}
use Rattle.rack_net.proofs.sets.LinkSet.put.Goals as goal

pub returns-then-is_in : goal.returns-then-is_in
returns-then-is_in c = marked-in c.args.self.now c.args.place c.args.is_in c.if-is_in.true (omega arith)

pub returns-else-is_in : goal.returns-else-is_in
returns-else-is_in c = marked-out c.args.self.now c.args.place c.args.is_in c.if-is_in.false (omega arith)
