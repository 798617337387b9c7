use Rattle.std.proofs.Common.{length, sym, subst}
use Rattle.mind_base.specs.declared.notes.State.{State}
use Rattle.switch_core.specs.Invariant.{IsFitState}
use Rattle.switch_core.proofs.Safety.{fit-left}
use Rattle.switch_core.proofs.switches.SwitchCore.left_in.Goals as goal

pub returns-clause-fits : goal.returns-clause-fits
returns-clause-fits c =
    let n = length c.args.self.now.plan.frames in
    subst (λ (x : State). IsFitState n x) (sym c.left_to.ensures) (fit-left n c.args.r.now.blade c.args.entry.now.state c.requires)
