-- What a net keeps, the links with their messages in bytes, and what it stands for.
use Rattle.std.specs.Prelude.{◌≡◌, ℕ, ◌+◌, ◌*◌, ◌<◌, List, [], length, map, take, slice_get, unwrap_or, All, Option, Some, None}
use Rattle.mind_base.specs.declared.links.LinkName.{LinkName}
use Rattle.mind_base.specs.declared.links.Side.{Side}
use Rattle.mind_base.specs.declared.links.Side.TheVariants.{Messages, Acks}
use Rattle.link_retry.specs.Link.{LinkView, IsLink}
use Rattle.link_retry.specs.SelectiveRepeat.{SelectiveView, WindowsView}
use Rattle.wire_msg.specs.declared.msgs.Msg.{Msg}
use Rattle.wire_msg.specs.declared.msgs.Msg.TheVariants.{Closed}
use Rattle.wire_msg.specs.Spelling.{spelling}
use Rattle.wire_msg.specs.WellFormed.{IsWellFormed}
use Rattle.wire_msg.specs.Reading.{message_of}
use Rattle.rack_net.specs.Net.{NetLink, NetView, links_of_kind, link_place}
use Rattle.rack_net.specs.LinkSets.{HasLinksWith, is_busy, is_keeping}
use Rattle.rack_net.specs.declared.sets.LinkSet.{LinkSet}

-- the message that the bytes spell; bytes that spell none are never pending
unfoldable pub message_spelled : List ℕ → Msg
message_spelled bytes = unwrap_or (message_of bytes) (Closed 0)

-- the link as a queue of messages
abbrev pub queue_of : LinkView → WindowsView → NetLink
queue_of link windows = record { pending = map message_spelled link.pending; next = link.next; kept = link.kept; messages = link.messages; acks = link.acks; windows = windows }

abbrev pub link_of : SelectiveView → NetLink
link_of link = queue_of link.link link.windows

abbrev pub net_view : ℕ → ℕ → List SelectiveView → NetView
net_view blades memories links = record { blades = blades; memories = memories; links = map link_of links }

-- the bytes spell a well-formed message
pub record IsSpelled (bytes : List ℕ) : Type 0 where
  pub message : Msg
  pub formed : IsWellFormed message
  pub spelled : spelling message ≡ bytes

-- a sound link on which only messages are pending
pub record IsHeld (link : SelectiveView) : Type 0 where
  pub sound : IsLink link.link
  pub spelled : All IsSpelled link.link.pending

-- two links for each blade
pub record AreKeptLinks (blades memories : ℕ) (links : List SelectiveView) : Type 0 where
  pub count : length links ≡ 2 * (blades + memories)
  pub held : All IsHeld links

-- the link with this name stands at this place
pub record IsNameAt (blades memories place : ℕ) (name : LinkName) : Type 0 where
  pub at : link_place blades name ≡ place
  pub of_net : name.number < links_of_kind blades memories name.kind

-- both wires are empty
abbrev pub IsQuietLink : SelectiveView → Type 0
IsQuietLink link = (link.link.messages ≡ []) × (link.link.acks ≡ [])

-- the first wire of a link that is not empty
abbrev pub FindsSide : SelectiveView → Option Side → Type 0
FindsSide link None = IsQuietLink link
FindsSide link (Some Messages) = 0 < length link.link.messages
FindsSide link (Some Acks) = (link.link.messages ≡ []) × (0 < length link.link.acks)

-- the link at this place is the first with a frame, on this side
pub record IsFirstBusy (links : List SelectiveView) (place : ℕ) (side : Side) : Type 0 where
  pub link : SelectiveView
  pub here : slice_get links place ≡ Some link
  pub busy : FindsSide link (Some side)
  pub before : All IsQuietLink (take place links)

abbrev pub FindsBusy : List SelectiveView → Option (ℕ × Side) → Type 0
FindsBusy links None = All IsQuietLink links
FindsBusy links (Some found) = IsFirstBusy links found.0 found.1

-- the link at this place is the first that keeps messages
pub record IsFirstKeeping (links : List SelectiveView) (place : ℕ) : Type 0 where
  pub link : SelectiveView
  pub here : slice_get links place ≡ Some link
  pub keeps : 0 < link.link.kept
  pub before : All (λ other. other.link.kept ≡ 0) (take place links)

abbrev pub FindsKeeping : List SelectiveView → Option ℕ → Type 0
FindsKeeping links None = All (λ link. link.link.kept ≡ 0) links
FindsKeeping links (Some place) = IsFirstKeeping links place

-- a net with the sets of its links that have a frame, and that keep messages
pub record IsKeptNet (blades memories : ℕ) (links : List SelectiveView) (busy keeping : LinkSet) : Type 0 where
  pub kept : AreKeptLinks blades memories links
  pub busy_links : HasLinksWith is_busy links busy
  pub keeping_links : HasLinksWith is_keeping links keeping
