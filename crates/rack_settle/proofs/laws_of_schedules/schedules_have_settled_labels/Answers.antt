use Rattle.rack_settle.proofs.Schedules.{settled_labels_of}
use Rattle.rack_settle.proofs.laws_of_schedules.schedules_have_settled_labels.Goals as goal

pub returns : goal.returns
returns c = settled_labels_of
