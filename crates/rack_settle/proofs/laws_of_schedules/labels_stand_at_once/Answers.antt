use Rattle.rack_settle.proofs.Prompts.{happens_in_log}
use Rattle.rack_settle.proofs.laws_of_schedules.labels_stand_at_once.Goals as goal

pub returns : goal.returns
returns c = happens_in_log
