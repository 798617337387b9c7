use Rattle.std.proofs.Common.{length}
use Rattle.mind_inputs.proofs.Chains.{AreRead}
use Rattle.mind_inputs.proofs.loading.read_images.Given as goal

abbrev pub invariant-loop-left : goal.invariant-loop-left
invariant-loop-left g l = AreRead (g.S.Store.holds l.fn.store) (g.S.Store.holds l.store) (g.S.Store.faults l.fn.store) (g.S.Store.faults l.store)
    (g.S.Store.missed l.fn.store) (g.S.Store.missed l.store) l.plans l.left l.images

abbrev pub decreases-loop-left : goal.decreases-loop-left
decreases-loop-left g l = length l.left
