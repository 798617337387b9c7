-- The code changes a link of the rack.
use Rattle.std.proofs.Common.{◌≡◌, sym, subst, ◌∙◌, ◌<◌, length}
use Rattle.mind_base.specs.declared.links.LinkName.{LinkName}
use Rattle.rack_net.specs.Net.{NetView, IsLinkOf, IsNet, ChangesOnly, links_of_kind}
use Rattle.rack_core.specs.Calls.{HasLink}
use Rattle.rack_core.specs.Rack.{RackView, with_net}
use Rattle.rack_core.specs.Shape.{IsShaped}

-- a link of the plan is one of the net
pub link-there : (rack : RackView) (link : LinkName) → IsShaped rack → HasLink rack.plan link → IsLinkOf rack.net link
link-there rack link shape of_plan =
    subst (λ m. link.number < links_of_kind rack.net.blades m link.kind) (sym shape.links.1)
    (subst (λ b. link.number < links_of_kind b (length rack.plan.memories) link.kind) (sym shape.links.0) of_plan)

-- another net of as many links
pub shape-net : (rack : RackView) (net : NetView) → net.blades ≡ rack.net.blades → net.memories ≡ rack.net.memories → IsNet net → IsShaped rack → IsShaped (with_net net rack)
shape-net rack net blades memories sound shape = record {
  fit = shape.fit;
  blades = shape.blades;
  each = shape.each;
  switch = shape.switch;
  memories = shape.memories;
  links = (blades ∙ shape.links.0, memories ∙ shape.links.1);
  net = sound;
  core = shape.core;
  slots = shape.slots;
}

pub shape-only : (link : LinkName) (rack : RackView) (net : NetView) → ChangesOnly link rack.net net → IsNet net → IsShaped rack → IsShaped (with_net net rack)
shape-only link rack net only sound shape = shape-net rack net only.blades only.memories sound shape
