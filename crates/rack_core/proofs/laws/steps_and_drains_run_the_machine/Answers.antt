use Rattle.rack_core.proofs.Machine.Events.{step-goes, drain-goes}
use Rattle.rack_core.proofs.laws.steps_and_drains_run_the_machine.Goals as goal

pub returns : goal.returns
returns c = record { step = step-goes; drain = drain-goes }
