use Rattle.coherence.proofs.Whole.{move_keeps, run_keeps, starts}
use Rattle.coherence.proofs.laws.every_move_keeps_coherence.Goals as goal

pub returns : goal.returns
returns c = record { move_keeps = move_keeps; starts = starts; run_keeps = run_keeps }
