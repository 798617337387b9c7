use Rattle.std.proofs.Common.{sym, subst}
use Rattle.rack_core.specs.Rack.{RackView}
use Rattle.rack_core.specs.Shape.{IsShaped}
use Rattle.rack_core.proofs.Functions.Net.{shape-only}
use Rattle.rack_core.proofs.racks.Rack.lose.Goals as goal

pub returns-clause-shape : goal.returns-clause-shape
returns-clause-shape c =
    let was : RackView = record { plan = c.self.inside.plan; blades = c.self.inside.blades.items; switch = c.self.inside.switch; memories = c.self.inside.memories.items; net = c.self.inside.net; asked = c.self.inside.asked } in
    shape-only c.args.link was c.lose.new.self c.lose.ensures.only c.lose.ensures.net (subst IsShaped (sym c.self.view_is) c.requires.shape)
