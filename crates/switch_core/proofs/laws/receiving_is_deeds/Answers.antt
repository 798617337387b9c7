use Rattle.switch_core.proofs.Deeds.{receives-deeds}
use Rattle.switch_core.proofs.laws.receiving_is_deeds.Goals as goal

pub returns : goal.returns
returns c = receives-deeds
