use Rattle.rack_settle.proofs.LabelRacks.{pays-owed}
use Rattle.rack_settle.proofs.LabelRuns.{step_pays, drain_pays}
use Rattle.rack_settle.proofs.laws_of_labels.what_waits_is_performed_once.Goals as goal

pub returns : goal.returns
returns c = record { others = λ images e old new noted none safe all given. (pays-owed images e old new noted none safe all given).same; step = step_pays; drain = drain_pays }
