use Rattle.std.proofs.Common.{◌≡◌, ◌∷◌, ◌++◌, [], set, ap, sym, subst}
use Rattle.std.specs.Prelude.{Err}
use Rattle.mind_base.specs.declared.failures.Stop.{Stop}
use Rattle.link_retry.specs.Link.{after_send}
use Rattle.wire_msg.specs.Spelling.{spelling}
use Rattle.rack_net.specs.Net.{spelled}
use Rattle.rack_net.specs.Kept.{net_view, IsHeld}
use Rattle.rack_net.proofs.Noting.{net-noted, net-same}
use Rattle.rack_net.proofs.Putting.{Updates, updates, by-name, is-net, kept-changed, held-at}
use Rattle.rack_net.proofs.nets.Net.send.Goals as goal
use Rattle.rack_net.proofs.nets.Net.send.Goals.{After-note_link}

step : (c : After-note_link) → Updates c.args.self.now (net_view c.self.inside.blades c.self.inside.memories (set c.self.inside.links.items c.place-at.result c.send_on.new.link)) c.args.link c.index_mut.result.now c.send_on.new.link
step c = updates c.self.view_is c.self.invariant.kept c.requires.of_net c.place-at.ensures c.index_mut.ensures.value c.in-Ok.ensures.held

pub returns-in-Ok-clause-fifo : goal.returns-in-Ok-clause-fifo
returns-in-Ok-clause-fifo c = by-name _ _ c.args.link _ _ (λ a b. b.pending ≡ a.pending ++ c.args.msg.now ∷ []) (step c) c.in-Ok.ensures.fifo

pub returns-in-Ok-clause-link : goal.returns-in-Ok-clause-link
returns-in-Ok-clause-link c = by-name _ _ c.args.link _ _ (λ a b. spelled b ≡ after_send (spelled a) (spelling c.args.msg.now)) (step c) c.in-Ok.ensures.link

pub returns-in-Ok-clause-only : goal.returns-in-Ok-clause-only
returns-in-Ok-clause-only c = (step c).only

pub returns-in-Ok-clause-net : goal.returns-in-Ok-clause-net
returns-in-Ok-clause-net c = (step c).net

pub returns-in-Err-Spent-clause-net : goal.returns-in-Err-Spent-clause-net
returns-in-Err-Spent-clause-net c = is-net _ _ _ (kept-changed _ _ c.self.inside.links.items c.place-at.result c.send_on.new.link c.self.invariant.kept
    (subst IsHeld (sym (c.in-Err-Spent.ensures.unchanged (ap (λ (s : Stop). Err s) c.in-Err-Spent.field-0-is)))
    (held-at c.args.self.now c.self.inside.blades c.self.inside.memories c.self.inside.links.items c.args.link c.place-at.result c.index_mut.result.now c.self.view_is c.self.invariant.kept c.requires.of_net c.place-at.ensures c.index_mut.ensures.value)))

pub returns-in-Ok-clause-windows : goal.returns-in-Ok-clause-windows
returns-in-Ok-clause-windows c = by-name _ _ c.args.link _ _ (λ a b. b.windows ≡ a.windows) (step c) c.in-Ok.ensures.windows

pub invariant_of-self : goal.invariant_of-self
invariant_of-self c = net-noted c.args.link c.self.view_is c.self.invariant c.requires.of_net c.place-at.ensures c.in-Ok.ensures.held c.index.ensures c.note_link.ensures.busy c.note_link.ensures.keeping

pub invariant_of-self-in-Err-Spent : goal.invariant_of-self-in-Err-Spent
invariant_of-self-in-Err-Spent c = net-same c.place-at.result c.self.invariant c.index_mut.ensures.value (c.in-Err-Spent.ensures.unchanged (ap (λ (s : Stop). Err s) c.in-Err-Spent.field-0-is))
