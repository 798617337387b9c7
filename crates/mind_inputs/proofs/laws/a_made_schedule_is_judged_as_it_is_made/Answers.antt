use Rattle.mind_inputs.proofs.Made.{judged-made}
use Rattle.mind_inputs.proofs.laws.a_made_schedule_is_judged_as_it_is_made.Goals as goal

pub returns : goal.returns
returns c = λ files rack schedule plan count seed fit few read held judged. judged-made files rack schedule plan count seed fit few read held judged
