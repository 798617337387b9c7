use Rattle.rack_core.proofs.Waits.Quiet.{quiet-rack}
use Rattle.rack_core.proofs.laws_of_quiet.quiet_when_nothing_is_under_way.Goals as goal

pub returns : goal.returns
returns c = quiet-rack
