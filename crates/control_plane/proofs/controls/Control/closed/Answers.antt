use Rattle.std.proofs.Common.{sym, subst}
use Rattle.control_plane.specs.Control.{ControlView, IsControl, PhaseWaitsFor}
use Rattle.control_plane.specs.declared.phases.Phase.{Phase}
use Rattle.control_plane.proofs.OneAtATime.{valid-closed}
use Rattle.control_plane.proofs.controls.Control.closed.Goals as goal

pub invariant_of-self : goal.invariant_of-self
invariant_of-self c =
    let s = c.self.inside in
    let view : ControlView = record { blades = s.blades; phase = s.phase; current = s.current; waiting = s.waiting.items; asked = s.asked; last = s.last } in
    let waits : PhaseWaitsFor c.args.number c.args.blade view.phase = subst (λ (v : ControlView). PhaseWaitsFor c.args.number c.args.blade v.phase) (sym c.self.view_is) c.requires in
    subst (λ (p : Phase). IsControl (record view { phase = p })) (sym c.answered-self-inside.ensures) (valid-closed view c.args.number c.args.blade waits c.self.invariant)

pub returns-clause-valid : goal.returns-clause-valid
returns-clause-valid c = invariant_of-self c
