use Rattle.std.proofs.Common.{arith, rules}
use Rattle.rack_net.proofs.Noting.{first-marked}
use Rattle.rack_net.proofs.sets.LinkSet.first.Goals as goal

pub returns : goal.returns
returns c = first-marked c.args.self (omega arith) (search rules)
