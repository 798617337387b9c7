use Rattle.compute_blade.proofs.Chains.{left_alone}
use Rattle.compute_blade.proofs.Stepping.{no_image}
use Rattle.compute_blade.proofs.blades.ComputeBlade.step.Goals as goal

pub returns-in_default-image_for-clause-ok : goal.returns-in_default-image_for-clause-ok
returns-in_default-image_for-clause-ok c =
    absurd (no_image c.args.self.now.plan.images c.args.images.now c.in-Some.mover.plan.image c.requires.images c.in-Some.ensures.fit.image c.in_default-image_for.ensures)

pub returns-in_err-step_of-clause-err : goal.returns-in_err-step_of-clause-err
returns-in_err-step_of-clause-err c = left_alone _ _ _ _ _ c.in_err-step_of.ensures.err
