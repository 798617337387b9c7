use Rattle.mind_top.proofs.Outcomes.{one_outcome}
use Rattle.mind_top.proofs.laws.settled_schedules_have_one_outcome.Goals as goal

pub returns : goal.returns
returns c = one_outcome
