use Rattle.rack_core.proofs.Callers.{shaped-counted}
use Rattle.rack_settle.proofs.LabelRuns.{settles-each, settles-same, settles-start}
use Rattle.rack_settle.proofs.laws_of_labels.labels_of_settled_events_are_determined.Goals as goal

pub returns : goal.returns
returns c = record { each = settles-each; from_start = settles-start; same = settles-same; counted = shaped-counted }
