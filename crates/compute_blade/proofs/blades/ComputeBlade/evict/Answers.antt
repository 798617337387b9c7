use Rattle.compute_blade.proofs.Chains.{left_alone}
use Rattle.compute_blade.proofs.blades.ComputeBlade.evict.Goals as goal

pub returns-in_err-give_up-clause-err : goal.returns-in_err-give_up-clause-err
returns-in_err-give_up-clause-err c = left_alone _ _ _ _ _ c.in_err-give_up.ensures.err
