use Rattle.compute_blade.proofs.Chains.{left_alone}
use Rattle.compute_blade.proofs.blades.ComputeBlade.drain.Goals as goal

pub returns-in_err-drain_of-clause-err : goal.returns-in_err-drain_of-clause-err
returns-in_err-drain_of-clause-err c = left_alone _ _ _ _ _ c.in_err-drain_of.ensures.err
