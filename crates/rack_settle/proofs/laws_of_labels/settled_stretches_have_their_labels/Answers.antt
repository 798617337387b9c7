use Rattle.rack_settle.proofs.LabelRuns.{event-settles, stretch-log, stretch-settles}
use Rattle.rack_settle.proofs.laws_of_labels.settled_stretches_have_their_labels.Goals as goal

pub returns : goal.returns
returns c = record { stretch = stretch-settles; one_event = event-settles; before = stretch-log }
