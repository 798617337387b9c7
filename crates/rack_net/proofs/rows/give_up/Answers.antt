use Rattle.std.proofs.Common.{rules}
use Rattle.rack_net.proofs.Putting.{is-net}
use Rattle.rack_net.proofs.rows.give_up.Goals as goal

pub returns-clause-net : goal.returns-clause-net
returns-clause-net c = is-net 0 0 _ (search rules)
