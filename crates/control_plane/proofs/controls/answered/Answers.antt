use Rattle.std.proofs.Common.{subst}
use Rattle.control_plane.specs.Control.{PhaseWaitsFor}
use Rattle.control_plane.specs.declared.phases.Phase.{Phase}
use Rattle.control_plane.proofs.controls.answered.Goals as goal

pub closed_by-requires : goal.closed_by-requires
closed_by-requires c = (subst (λ (p : Phase). PhaseWaitsFor c.args.number c.args.blade p) c.in-Closing.is c.requires).1
