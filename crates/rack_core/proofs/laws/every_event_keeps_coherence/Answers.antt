use Rattle.rack_core.proofs.Events.Starting.{starts}
use Rattle.rack_core.proofs.Events.Whole.{event_keeps, run_keeps-all}
use Rattle.rack_core.proofs.laws.every_event_keeps_coherence.Goals as goal

pub returns : goal.returns
returns c = record { event_keeps = event_keeps; run_keeps = run_keeps-all; starts = starts }
