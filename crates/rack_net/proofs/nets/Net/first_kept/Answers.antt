use Rattle.std.proofs.Common.{◌≡◌, List, All, subst}
use Rattle.std.specs.Prelude.{None}
use Rattle.link_retry.specs.SelectiveRepeat.{SelectiveView}
use Rattle.rack_net.specs.Net.{NetView, IsNet, IsFirstKept, FindsKept}
use Rattle.rack_net.specs.Kept.{IsFirstKeeping}
use Rattle.rack_net.proofs.Putting.{is-net}
use Rattle.rack_net.proofs.Finding.{none-kept, first-kept, found-below}
use Rattle.rack_net.proofs.nets.Net.first_kept.Goals as goal

pub returns-in-None-clause-first : goal.returns-in-None-clause-first
returns-in-None-clause-first c =
    subst (λ (v : NetView). FindsKept v None) c.self.view_is
    (none-kept c.self.inside.blades c.self.inside.memories c.self.inside.links.items c.self.invariant.kept (subst (All (λ (link : SelectiveView). link.link.kept ≡ 0)) c.as_slice.ensures.value c.in-None.ensures))

pub returns-in-None-clause-net : goal.returns-in-None-clause-net
returns-in-None-clause-net c = subst IsNet c.self.view_is (is-net _ _ _ c.self.invariant.kept)

pub name-requires : goal.name-requires
name-requires c =
    let found = subst (λ (links : List SelectiveView). IsFirstKeeping links c.in-Some.at) c.as_slice.ensures.value c.in-Some.ensures in
    found-below _ _ c.self.inside.links.items c.in-Some.at found.link c.self.invariant.kept found.here

pub returns-in-Some-clause-first : goal.returns-in-Some-clause-first
returns-in-Some-clause-first c =
    subst (λ (v : NetView). IsFirstKept v c.name.result) c.self.view_is
    (first-kept c.self.inside.blades c.self.inside.memories c.self.inside.links.items c.in-Some.at c.name.result c.self.invariant.kept
    (subst (λ (links : List SelectiveView). IsFirstKeeping links c.in-Some.at) c.as_slice.ensures.value c.in-Some.ensures) c.name.ensures)

pub returns-in-Some-clause-net : goal.returns-in-Some-clause-net
returns-in-Some-clause-net c = subst IsNet c.self.view_is (is-net _ _ _ c.self.invariant.kept)
