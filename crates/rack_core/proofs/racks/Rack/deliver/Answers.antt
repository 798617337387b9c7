use Rattle.std.proofs.Common.{◌≡◌, ◌∙◌, ap, sym, subst, reverse}
use Rattle.std.proofs.lemmas.List.{reverse-reverse}
use Rattle.mind_base.specs.declared.events.Event.TheVariants.{Deliver}
use Rattle.rack_net.specs.Net.{IsLinkOf, links_of}
use Rattle.rack_core.specs.Calls.{IsKept, Notes}
use Rattle.rack_core.specs.Events.{Hands, HandsAll, Leads}
use Rattle.rack_core.specs.Handing.{IsHanding}
use Rattle.rack_core.specs.Rack.{RackView, with_net}
use Rattle.rack_core.specs.Shape.{IsShaped}
use Rattle.rack_core.proofs.Functions.Blades.{when-ok}
use Rattle.rack_core.proofs.Functions.Hands.{handing-first, delivered}
use Rattle.rack_core.proofs.Functions.Net.{link-there, shape-only}
use Rattle.rack_core.proofs.racks.Rack.deliver.Goals as goal

pub deliver-requires : goal.deliver-requires
deliver-requires c = subst (λ (r : RackView). IsLinkOf r.net c.args.link) (sym c.self.view_is) (link-there c.args.self.now c.args.link c.requires.kept.shape c.requires.link)

pub hand_all-requires-clause-shape : goal.hand_all-requires-clause-shape
hand_all-requires-clause-shape c =
    let inside : RackView = record { plan = c.self.inside.plan; blades = c.self.inside.blades.items; switch = c.self.inside.switch; memories = c.self.inside.memories.items; net = c.self.inside.net; asked = c.self.inside.asked } in
    shape-only c.args.link inside c.deliver.new.self c.in_ok-taken.ensures.only c.deliver.ensures.net (subst IsShaped (sym c.self.view_is) c.requires.kept.shape)

pub hand_all-requires-clause-handing : goal.hand_all-requires-clause-handing
hand_all-requires-clause-handing c =
    let inside : RackView = record { plan = c.self.inside.plan; blades = c.self.inside.blades.items; switch = c.self.inside.switch; memories = c.self.inside.memories.items; net = c.self.inside.net; asked = c.self.inside.asked } in
    let taken = c.in_ok-taken.taken.items in
    let back : reverse c.reverse.new.self.items ≡ taken = ap reverse c.reverse.ensures.items ∙ reverse-reverse taken in
    let hands : Hands (links_of inside.net c.args.link) c.args.side c.args.k taken (links_of c.deliver.new.self c.args.link) = record { fifo = c.in_ok-taken.ensures.fifo; link = c.in_ok-taken.ensures.link } in
    subst (λ ms. IsHanding c.args.link ms (with_net c.deliver.new.self inside)) (sym back)
    (handing-first c.args.link c.args.side c.args.k taken inside c.deliver.new.self (subst IsKept (sym c.self.view_is) c.requires.kept) hands c.in_ok-taken.ensures.only)

pub returns-clause-leads : goal.returns-clause-leads
returns-clause-leads c =
    let inside : RackView = record { plan = c.self.inside.plan; blades = c.self.inside.blades.items; switch = c.self.inside.switch; memories = c.self.inside.memories.items; net = c.self.inside.net; asked = c.self.inside.asked } in
    let taken = c.in_ok-taken.taken.items in
    let back : reverse c.reverse.new.self.items ≡ taken = ap reverse c.reverse.ensures.items ∙ reverse-reverse taken in
    let hands : Hands (links_of inside.net c.args.link) c.args.side c.args.k taken (links_of c.deliver.new.self c.args.link) = record { fifo = c.in_ok-taken.ensures.fifo; link = c.in_ok-taken.ensures.link } in
    when-ok c.hand_all.result
    (λ handed. subst (λ (r : RackView). Notes (Leads c.args.images.now (Deliver c.args.link c.args.side c.args.k) r c.hand_all.new.self) c.args.log.now.notes c.hand_all.new.log.notes) c.self.view_is
    (delivered c.args.images.now c.args.link c.args.side c.args.k taken inside c.hand_all.new.self c.deliver.new.self c.args.log.now.notes c.hand_all.new.log.notes hands c.in_ok-taken.ensures.only
    (subst (λ ms. Notes (HandsAll c.args.images.now c.args.link ms (with_net c.deliver.new.self inside) c.hand_all.new.self) c.args.log.now.notes c.hand_all.new.log.notes) back handed)))
    c.hand_all.ensures.ok
