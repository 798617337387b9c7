use Rattle.rack_core.proofs.Log.AtOnce.Events.{executes_at_once, step_drains_at_once, drains_at_once, one_of_step, one_of_drain}
use Rattle.rack_core.proofs.laws_at_once.what_happens_at_once.Goals as goal

pub returns : goal.returns
returns c = record { executes = executes_at_once; step_drains = step_drains_at_once; drains = drains_at_once; one_of_step = one_of_step; one_of_drain = one_of_drain }
