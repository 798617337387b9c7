use Rattle.std.proofs.Common.{◌≡◌, List, sym, subst}
use Rattle.link_retry.specs.SelectiveRepeat.{SelectiveView}
use Rattle.rack_net.specs.Net.{IsNet, empty_link, links_of}
use Rattle.rack_net.specs.Kept.{net_view}
use Rattle.rack_net.proofs.Putting.{is-net, kept-new, all-empty}
use Rattle.rack_net.proofs.nets.Net.new.Goals as goal

pub returns-clause-empty : goal.returns-clause-empty
returns-clause-empty c =
    subst (λ (links : List SelectiveView). links_of (net_view c.args.blades c.args.memories links) ≡ (λ _. empty_link)) (sym c.in_ok-links.ensures)
    (all-empty c.args.blades c.args.memories)

pub returns-clause-net : goal.returns-clause-net
returns-clause-net c =
    subst (λ (links : List SelectiveView). IsNet (net_view c.args.blades c.args.memories links)) (sym c.in_ok-links.ensures)
    (is-net c.args.blades c.args.memories _ (kept-new c.args.blades c.args.memories))
