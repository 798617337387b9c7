use Rattle.std.proofs.Common.{sym, subst}
use Rattle.rack_core.specs.Rack.{RackView}
use Rattle.rack_core.specs.Shape.{IsShaped}
use Rattle.rack_core.proofs.Functions.Blades.{when-ok}
use Rattle.rack_core.proofs.Functions.Net.{shape-only}
use Rattle.rack_core.proofs.racks.Rack.resend.Goals as goal

pub returns-clause-shape : goal.returns-clause-shape
returns-clause-shape c =
    let was : RackView = record { plan = c.self.inside.plan; blades = c.self.inside.blades.items; switch = c.self.inside.switch; memories = c.self.inside.memories.items; net = c.self.inside.net; asked = c.self.inside.asked } in
    when-ok c.resend.result (λ only. shape-only c.args.link was c.resend.new.self only c.resend.ensures.net (subst IsShaped (sym c.self.view_is) c.requires.shape)) c.resend.ensures.only
