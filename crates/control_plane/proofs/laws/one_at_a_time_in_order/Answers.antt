use Rattle.control_plane.proofs.OneAtATime.{always, all_closed}
use Rattle.control_plane.proofs.laws.one_at_a_time_in_order.Goals as goal

pub returns-clause-in_order : goal.returns-clause-in_order
returns-clause-in_order c = λ blades calls control run. (always blades calls control run).order

pub returns-clause-numbered : goal.returns-clause-numbered
returns-clause-numbered c = λ blades calls control run. (always blades calls control run).number

pub returns-clause-all_have_closed : goal.returns-clause-all_have_closed
returns-clause-all_have_closed c = all_closed
