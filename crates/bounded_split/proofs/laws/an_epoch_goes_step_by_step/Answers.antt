use Rattle.bounded_split.proofs.StepPoints.{are-directories}
use Rattle.bounded_split.proofs.Stepping.{goes-by-steps}
use Rattle.bounded_split.proofs.laws.an_epoch_goes_step_by_step.Goals as goal

pub returns-clause-steps : goal.returns-clause-steps
returns-clause-steps c = goes-by-steps

pub returns-clause-directories : goal.returns-clause-directories
returns-clause-directories c = are-directories
