use Rattle.rack_core.proofs.Waits.GoOn.{rack_resumes, rack_fills, rack_denies}
use Rattle.rack_core.proofs.Waits.Runs.{start_needs, event_needs, run_needs, reached_needs}
use Rattle.rack_core.proofs.laws_of_waits.waits_fit.Goals as goal

pub returns : goal.returns
returns c = record { starts = start_needs; event_keeps = event_needs; run_keeps = run_needs; reached = reached_needs; goes_on = rack_resumes; filled = rack_fills; denied = rack_denies }
