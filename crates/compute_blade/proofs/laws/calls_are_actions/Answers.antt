use Rattle.compute_blade.proofs.Acting.{step_acts, drain_acts, gives, message_acts}
use Rattle.compute_blade.proofs.laws.calls_are_actions.Goals as goal

pub returns : goal.returns
returns c = record { step = step_acts; drain = drain_acts; evict = gives; receive = message_acts }
