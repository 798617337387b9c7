-- A message that a link gave may be handed to the node at its end; and what is fetched is allowed.
use Rattle.std.proofs.Common.{◌≡◌, sym, ap, subst, ◌∙◌, ℕ, ◌<◌, true, List, [], ◌∷◌, ◌++◌, length, slice_get, Some}
use Rattle.mind_base.specs.Page.{PageView}
use Rattle.mind_base.specs.declared.links.LinkKind.{LinkKind}
use Rattle.mind_base.specs.declared.links.LinkKind.TheVariants.{Up, Down, To, From}
use Rattle.mind_base.specs.declared.links.LinkName.{LinkName}
use Rattle.mind_base.specs.Permission.{allows}
use Rattle.page_image.specs.PageImage.{PageImageView}
use Rattle.protect_table.specs.Protect.{permission_at}
use Rattle.request_list.specs.Requests.{AskOncePerPage}
use Rattle.request_list.specs.declared.requests.Request.{Request}
use Rattle.wire_msg.specs.declared.msgs.Msg.{Msg}
use Rattle.switch_core.specs.Sending.{AreFetchesAllowed}
use Rattle.switch_core.specs.Switch.{SwitchView, place_in}
use Rattle.coherence.specs.Facts.{IsCoherent, AreFetches, AreUps}
use Rattle.coherence.specs.World.{World}
use Rattle.coherence.proofs.Callers.{put-here}
use Rattle.rack_core.specs.Calls.{MayBeHanded, HasLink}
use Rattle.rack_core.specs.Handing.{IsHanding}
use Rattle.rack_core.specs.Rack.{RackView}
use Rattle.rack_core.specs.Seen.{pending_on, seen}
use Rattle.rack_core.specs.Shape.{IsShaped}
use Rattle.rack_core.specs.SwitchMoves.{Shows, with_front}
use Rattle.rack_core.proofs.Moves.Blade.Handed.{handed_may_come}
use Rattle.rack_core.proofs.Events.Handing.{lies_up}
use Rattle.rack_core.proofs.Moves.Memory.Handed.{asked_for}
use Rattle.rack_core.proofs.Moves.Switch.Handed.{shows_front}
use Rattle.rack_core.proofs.Moves.Switch.May.{may_come_up, may_come_from}
use Rattle.rack_core.proofs.Moves.Switch.Requests.{wanted-got, wanted_of}
use Rattle.rack_core.proofs.Lists.Parts.{all-from_got}

-- ---- the node at the end of the link

may : (kind : LinkKind) (number : ℕ) (message : Msg) (rest : List Msg) (rack : RackView) → IsShaped rack → HasLink rack.plan (record { kind = kind; number = number })
    → IsHanding (record { kind = kind; number = number }) (message ∷ rest) rack → MayBeHanded kind number message rack
may Up number message rest rack shape of_plan handing =
    let w = with_front Up number (message ∷ rest) (seen rack handing.flat) in
    let behind = rest ++ pending_on rack.net Up number in
    let head : w.ups number ≡ message ∷ behind = put-here number (message ∷ behind) (pending_on rack.net Up) in (
      subst (λ (p : Rattle.mind_base.specs.declared.plans.RackPlan.RackPlan). number < length p.frames) (sym shape.switch) of_plan,
      may_come_up w rack.switch number message behind handing.coherent (shows_front Up number (message ∷ rest) rack handing.flat)
          (lies_up w number message behind (subst (AreUps w number) head (handing.coherent.ups number))) head,
    )
may Down number message rest rack shape of_plan handing =
    λ blade there. handed_may_come [] rack handing.flat number blade message rest handing.coherent handing.sound.blades there
may To number message rest rack shape of_plan handing =
    λ pages there. asked_for (place_in rack.switch) number (length pages) message handing.asks.0 (handing.sound.room number pages there)
may From number message rest rack shape of_plan handing =
    let w = with_front From number (message ∷ rest) (seen rack handing.flat) in
    let behind = rest ++ pending_on rack.net From number in (
      subst (λ (p : Rattle.mind_base.specs.declared.plans.RackPlan.RackPlan). number < length p.memories) (sym shape.switch) of_plan,
      may_come_from w rack.switch number message behind handing.coherent (shows_front From number (message ∷ rest) rack handing.flat)
          (put-here number (message ∷ behind) (pending_on rack.net From)),
    )

pub may-hand : (link : LinkName) (message : Msg) (rest : List Msg) (rack : RackView) → IsShaped rack → HasLink rack.plan link
    → IsHanding link (message ∷ rest) rack → MayBeHanded link.kind link.number message rack
may-hand link message rest rack shape of_plan handing = may link.kind link.number message rest rack shape of_plan handing

-- ---- what is fetched

fetches-allowed : (switch : SwitchView) (w : World) → AskOncePerPage switch.requests → Shows w switch → AreFetches w → AreFetchesAllowed switch
fetches-allowed switch w apart shows fetches = all-from_got (λ r. r.fetching ≡ true → allows r.write (permission_at switch.protect r.page) ≡ true) switch.requests each where
  each : (i : ℕ) (r : Request) → slice_get switch.requests i ≡ Some r → r.fetching ≡ true → allows r.write (permission_at switch.protect r.page) ≡ true
  each i r is fetching =
      let wanted = ap (λ f. f r.blade r.page) shows.wants ∙ wanted-got switch.requests i r apart is in
      let fetch = fetches r.blade r.page (wanted_of r) wanted fetching in
      ap (λ f. allows r.write (f r.page)) (sym shows.places.perms) ∙ fetch.allowed

front-fetches : (kind : LinkKind) (number : ℕ) (messages : List Msg) (rack : RackView) (flat : PageView → PageImageView)
    → IsCoherent (with_front kind number messages (seen rack flat)) → AskOncePerPage rack.switch.requests → AreFetchesAllowed rack.switch
front-fetches kind number messages rack flat coherent apart =
    fetches-allowed rack.switch (with_front kind number messages (seen rack flat)) apart (shows_front kind number messages rack flat) coherent.fetches

pub handing-allowed : (link : LinkName) (messages : List Msg) (rack : RackView) → IsHanding link messages rack → AreFetchesAllowed rack.switch
handing-allowed link messages rack handing = front-fetches link.kind link.number messages rack handing.flat handing.coherent handing.sound.switch.requests
