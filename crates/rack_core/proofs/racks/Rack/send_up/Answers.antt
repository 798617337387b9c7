use Rattle.std.proofs.Common.{ap, subst, sym}
use Rattle.mind_base.specs.declared.links.LinkKind.TheVariants.{Up}
use Rattle.rack_net.specs.Net.{IsNet}
use Rattle.rack_core.specs.Events.{SendsAll, on}
use Rattle.rack_core.specs.Rack.{RackView, with_net}
use Rattle.rack_core.proofs.Functions.Blades.{when-ok}
use Rattle.rack_core.proofs.racks.Rack.send_up.Goals as goal

pub returns-clause-ok : goal.returns-clause-ok
returns-clause-ok c = when-ok c.send_each.result
    (λ sends. (
      c.send_each.new.net,
      subst (λ (rack : RackView). SendsAll (on Up c.args.number c.args.sent.now) rack.net c.send_each.new.net) c.self.view_is sends,
      ap (with_net c.send_each.new.net) c.self.view_is,
    ))
    c.send_each.ensures.ok

pub returns-clause-net : goal.returns-clause-net
returns-clause-net c = λ was. c.send_each.ensures.net (subst (λ (r : RackView). IsNet r.net) (sym c.self.view_is) was)
