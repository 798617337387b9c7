use Rattle.std.proofs.Common.{ap, Some, rules}
use Rattle.compute_blade.specs.Pages.{given_up}
use Rattle.compute_blade.proofs.Callers.{gives}
use Rattle.rack_core.specs.Rack.{RackView}
use Rattle.rack_core.proofs.Functions.Blades.{did-agrees, did-sent, of-net, number-within, number-at, blade-acted, shape-acted}
use Rattle.rack_core.proofs.racks.Rack.evict.Goals as goal

pub send_up-requires-clause-of_rack : goal.send_up-requires-clause-of_rack
send_up-requires-clause-of_rack c =
    of-net c.args.number c.args.self.now c.self.inside.net.blades (ap (λ (r : RackView). r.net.blades) c.self.view_is) c.requires.kept.shape (number-within c.args.number c.args.self.now c.requires.kept.shape c.requires.number)

pub send_up-requires-clause-fields : goal.send_up-requires-clause-fields
send_up-requires-clause-fields c =
    did-agrees (Some (given_up c.args.page c.index_mut.result.now)) c.index_mut.result.now c.evict.new.self c.as_slice.result.now c.args.log.now.notes c.evict.new.log.notes
    (gives c.args.page c.index_mut.result.now)
    (did-sent (Some (given_up c.args.page c.index_mut.result.now)) c.evict.new.self _ c.evict.new.out.items c.as_slice.result.now c.args.log.now.notes c.evict.new.log.notes c.new-sent.ensures.items c.as_slice.ensures.value c.in_ok-evict.ensures.ok)

pub returns-clause-leads : goal.returns-clause-leads
returns-clause-leads c = λ images.
    blade-acted (λ b. Some (given_up c.args.page b)) _ c.args.self.now c.send_up.new.self _ c.args.number c.index_mut.result.now c.evict.new.self c.as_slice.result.now c.args.log.now.notes c.evict.new.log.notes c.send_up.result
    (number-at _ c.args.self.now _ _ _ c.self.view_is c.from.ensures c.index_mut.ensures.value c.requires.kept.shape c.requires.number)
    (did-sent (Some (given_up c.args.page c.index_mut.result.now)) c.evict.new.self _ c.evict.new.out.items c.as_slice.result.now c.args.log.now.notes c.evict.new.log.notes c.new-sent.ensures.items c.as_slice.ensures.value c.in_ok-evict.ensures.ok) c.send_up.ensures.ok

pub returns-clause-leaves : goal.returns-clause-leaves
returns-clause-leaves c =
    let shape = shape-acted _ c.args.self.now c.send_up.new.self _ c.args.number c.index_mut.result.now c.evict.new.self c.as_slice.result.now c.send_up.result
    (number-at _ c.args.self.now _ _ _ c.self.view_is c.from.ensures c.index_mut.ensures.value c.requires.kept.shape c.requires.number) c.evict.ensures.keeps c.send_up.ensures.net c.requires.kept.shape c.send_up.ensures.ok in
    record { shape = shape; spent = search rules; err = search rules; plan = search rules }
