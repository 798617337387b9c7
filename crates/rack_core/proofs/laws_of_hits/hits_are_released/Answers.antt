use Rattle.std.proofs.Common.{arith}
use Rattle.rack_core.proofs.Log.Hits.Rack.{event-released}
use Rattle.rack_core.proofs.laws_of_hits.hits_are_released.Goals as goal

pub returns-clause-event : goal.returns-clause-event
returns-clause-event c = event-released

pub returns-clause-log : goal.returns-clause-log
returns-clause-log c = λ images rack log stands. omega (arith, stands.released)
