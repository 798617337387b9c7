use Rattle.std.proofs.Common.{sym, subst, refl, rules}
use Rattle.rack_core.specs.Rack.{RackView, with_net, with_switch}
use Rattle.rack_core.specs.Shape.{IsShaped}
use Rattle.rack_core.proofs.Functions.Blades.{when-ok}
use Rattle.rack_core.proofs.Functions.Switch.{switch-shape}
use Rattle.rack_core.proofs.racks.Rack.hand_to_switch.Goals as goal

pub returns-clause-leaves : goal.returns-clause-leaves
returns-clause-leaves c =
    let inside : RackView = record { plan = c.self.inside.plan; blades = c.self.inside.blades.items; switch = c.self.inside.switch; memories = c.self.inside.memories.items; net = c.self.inside.net; asked = c.self.inside.asked } in
    let shape = when-ok c.send_all.result
    (λ sends. switch-shape inside (with_net c.send_all.new.net (with_switch c.receive.new.self inside)) c.receive.new.self c.send_all.new.net c.as_slice.result.now sends refl
    c.receive.ensures.remains c.in_ok-receive.ensures.switch c.send_all.ensures.net (subst IsShaped (sym c.self.view_is) c.requires.shape))
    c.send_all.ensures.ok in
    record { shape = shape; spent = search rules; err = search rules; plan = search rules }
