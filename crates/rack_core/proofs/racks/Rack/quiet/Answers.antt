use Rattle.std.proofs.Common.{sym, subst}
use Rattle.switch_core.specs.Handling.{IsQuietSwitch}
use Rattle.rack_core.specs.Calls.{HasNoFrame, KeepsNothing}
use Rattle.rack_core.specs.Rack.{RackView}
use Rattle.rack_core.proofs.Functions.Events.{not-true}
use Rattle.rack_core.proofs.racks.Rack.quiet.Goals as goal

pub returns-then-not-has_no_frame : goal.returns-then-not-has_no_frame
returns-then-not-has_no_frame c = (λ t. not-true t, λ q. c.if-not-has_no_frame.ensures.1 (subst (λ (r : RackView). HasNoFrame r.net) (sym c.self.view_is) q.frames))

pub returns-then-not-keeps_nothing : goal.returns-then-not-keeps_nothing
returns-then-not-keeps_nothing c = (λ t. not-true t, λ q. c.if-not-keeps_nothing.ensures.1 (subst (λ (r : RackView). KeepsNothing r.net) (sym c.self.view_is) q.kept))

pub returns-then-not-quiet : goal.returns-then-not-quiet
returns-then-not-quiet c = (λ t. not-true t, λ q. c.if-not-quiet.ensures.1 (subst (λ (r : RackView). IsQuietSwitch r.switch) (sym c.self.view_is) q.switch))
