use Rattle.mind_top.proofs.Decided.{made-runs}
use Rattle.mind_top.proofs.laws.what_is_made_runs_as_it_is_loaded.Goals as goal

pub returns : goal.returns
returns c = λ files rack schedule plan count seed fit few read held left text. made-runs files rack schedule plan count seed fit few read held left text
