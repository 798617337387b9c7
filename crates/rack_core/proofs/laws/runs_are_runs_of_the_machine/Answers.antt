use Rattle.rack_core.proofs.Machine.Logs.{event-logs, runs-log}
use Rattle.rack_core.proofs.Machine.Starts.{start-logs}
use Rattle.rack_core.proofs.laws.runs_are_runs_of_the_machine.Goals as goal

pub returns : goal.returns
returns c = record { starts = start-logs; event = event-logs; run = runs-log }
