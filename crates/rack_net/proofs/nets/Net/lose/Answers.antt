use Rattle.std.proofs.Common.{◌≡◌, set}
use Rattle.link_retry.specs.Link.{after_lose}
use Rattle.link_retry.specs.SelectiveRepeat.{windows_after_lose}
use Rattle.rack_net.specs.Net.{spelled}
use Rattle.rack_net.specs.Kept.{net_view}
use Rattle.rack_net.proofs.Noting.{net-noted}
use Rattle.rack_net.proofs.Putting.{Updates, updates, by-name}
use Rattle.rack_net.proofs.nets.Net.lose.Goals as goal
use Rattle.rack_net.proofs.nets.Net.lose.Goals.{After-note_link}

step : (c : After-note_link) → Updates c.args.self.now (net_view c.self.inside.blades c.self.inside.memories (set c.self.inside.links.items c.place-at.result c.lose_on.new.link)) c.args.link c.index_mut.result.now c.lose_on.new.link
step c = updates c.self.view_is c.self.invariant.kept c.requires c.place-at.ensures c.index_mut.ensures.value c.lose_on.ensures.held

pub returns-clause-fifo : goal.returns-clause-fifo
returns-clause-fifo c = by-name _ _ c.args.link _ _ (λ a b. b.pending ≡ a.pending) (step c) c.lose_on.ensures.fifo

pub returns-clause-link : goal.returns-clause-link
returns-clause-link c = by-name _ _ c.args.link _ _ (λ a b. spelled b ≡ after_lose (spelled a) c.args.side c.args.k) (step c) c.lose_on.ensures.link

pub returns-clause-only : goal.returns-clause-only
returns-clause-only c = (step c).only

pub returns-clause-net : goal.returns-clause-net
returns-clause-net c = (step c).net

pub returns-clause-windows : goal.returns-clause-windows
returns-clause-windows c = by-name _ _ c.args.link _ _ (λ a b. b.windows ≡ windows_after_lose a.windows c.args.side c.args.k) (step c) c.lose_on.ensures.windows

pub invariant_of-self : goal.invariant_of-self
invariant_of-self c = net-noted c.args.link c.self.view_is c.self.invariant c.requires c.place-at.ensures c.lose_on.ensures.held c.index.ensures c.note_link.ensures.busy c.note_link.ensures.keeping
