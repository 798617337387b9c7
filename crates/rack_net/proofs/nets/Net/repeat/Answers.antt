use Rattle.std.proofs.Common.{◌≡◌, set}
use Rattle.link_retry.specs.Link.{after_repeat}
use Rattle.link_retry.specs.SelectiveRepeat.{windows_after_repeat}
use Rattle.rack_net.specs.Net.{spelled}
use Rattle.rack_net.specs.Kept.{net_view}
use Rattle.rack_net.proofs.Noting.{net-noted}
use Rattle.rack_net.proofs.Putting.{Updates, updates, by-name}
use Rattle.rack_net.proofs.nets.Net.repeat.Goals as goal
use Rattle.rack_net.proofs.nets.Net.repeat.Goals.{After-note_link}

step : (c : After-note_link) → Updates c.args.self.now (net_view c.self.inside.blades c.self.inside.memories (set c.self.inside.links.items c.place-at.result c.repeat_on.new.link)) c.args.link c.index_mut.result.now c.repeat_on.new.link
step c = updates c.self.view_is c.self.invariant.kept c.requires c.place-at.ensures c.index_mut.ensures.value c.in-Ok.ensures.held

pub returns-in-Ok-clause-fifo : goal.returns-in-Ok-clause-fifo
returns-in-Ok-clause-fifo c = by-name _ _ c.args.link _ _ (λ a b. b.pending ≡ a.pending) (step c) c.in-Ok.ensures.fifo

pub returns-in-Ok-clause-link : goal.returns-in-Ok-clause-link
returns-in-Ok-clause-link c = by-name _ _ c.args.link _ _ (λ a b. spelled b ≡ after_repeat (spelled a) c.args.side c.args.k) (step c) c.in-Ok.ensures.link

pub returns-in-Ok-clause-only : goal.returns-in-Ok-clause-only
returns-in-Ok-clause-only c = (step c).only

pub returns-in-Ok-clause-net : goal.returns-in-Ok-clause-net
returns-in-Ok-clause-net c = (step c).net

pub returns-in-Ok-clause-windows : goal.returns-in-Ok-clause-windows
returns-in-Ok-clause-windows c = by-name _ _ c.args.link _ _ (λ a b. b.windows ≡ windows_after_repeat a.windows c.args.side c.args.k) (step c) c.in-Ok.ensures.windows

pub invariant_of-self : goal.invariant_of-self
invariant_of-self c = net-noted c.args.link c.self.view_is c.self.invariant c.requires c.place-at.ensures c.in-Ok.ensures.held c.index.ensures c.note_link.ensures.busy c.note_link.ensures.keeping
