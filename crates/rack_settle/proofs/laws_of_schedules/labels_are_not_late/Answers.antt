use Rattle.rack_settle.proofs.LateLabels.{late_unsettled, late_unprompted}
use Rattle.rack_settle.proofs.laws_of_schedules.labels_are_not_late.Goals as goal

pub returns : goal.returns
returns c = record { settled = late_unsettled; at_once = late_unprompted }
