-- All links of a rack, each as a queue of messages, and what each call does to one of them.
use Rattle.std.specs.Prelude.{◌≡◌, ℕ, ◌+◌, ◌*◌, ◌<◌, Bool, ◌&&◌, ◌==◌, nat_lt, List, [], length, map, All, slice_index_or, Option, Some, None, if◌then◌else◌}
use Rattle.mind_base.specs.declared.links.LinkKind.{LinkKind}
use Rattle.mind_base.specs.declared.links.LinkKind.TheVariants.{Up, Down, To, From}
use Rattle.mind_base.specs.declared.links.LinkName.{LinkName}
use Rattle.mind_base.specs.declared.links.Side.{Side}
use Rattle.mind_base.specs.declared.links.Side.TheVariants.{Messages, Acks}
use Rattle.link_retry.specs.Link.{LinkView, IsLink, wire_of}
use Rattle.link_retry.specs.SelectiveRepeat.{SelectiveView, WindowsView, new_windows}
use Rattle.wire_msg.specs.declared.msgs.Msg.{Msg}
use Rattle.wire_msg.specs.Spelling.{spelling}
use Rattle.wire_msg.specs.WellFormed.{IsWellFormed}

-- a link: the messages sent and not yet taken, in order; the number of the next one; how many the sender
-- keeps; the message wire and the acknowledgement wire, of numbers; and the windows of both ends
pub record NetLink : Type 0 where
  pub pending : List Msg
  pub next : ℕ
  pub kept : ℕ
  pub messages : List ℕ
  pub acks : List ℕ
  pub windows : WindowsView

-- the same link with its messages in bytes
abbrev pub spelled : NetLink → LinkView
spelled link = record { pending = map spelling link.pending; next = link.next; kept = link.kept; messages = link.messages; acks = link.acks }

-- the same with its windows
abbrev pub with_windows : NetLink → SelectiveView
with_windows link = record { link = spelled link; windows = link.windows }

-- a link that nothing was sent on
abbrev pub empty_link : NetLink
empty_link = record { pending = []; next = 0; kept = 0; messages = []; acks = []; windows = new_windows }

-- how many compute blades and memory blades there are, and their links in order: up and down of each
-- compute blade, then to and from each memory blade
pub record NetView : Type 0 where
  pub blades : ℕ
  pub memories : ℕ
  pub links : List NetLink

-- how many links of a kind there are
abbrev pub links_of_kind : ℕ → ℕ → LinkKind → ℕ
links_of_kind blades memories Up = blades
links_of_kind blades memories Down = blades
links_of_kind blades memories To = memories
links_of_kind blades memories From = memories

-- the link is one of the net's
abbrev pub IsLinkOf : NetView → LinkName → Type 0
IsLinkOf net name = name.number < links_of_kind net.blades net.memories name.kind

-- the place of the first link of a kind; of each kind every second place has one
abbrev pub first_place : ℕ → LinkKind → ℕ
first_place blades Up = 0
first_place blades Down = 1
first_place blades To = 2 * blades
first_place blades From = 2 * blades + 1

-- where a link stands in the order: u0, d0, u1, d1, .. and then t0, f0, t1, f1, ..
abbrev pub link_place : ℕ → LinkName → ℕ
link_place blades name = first_place blades name.kind + 2 * name.number

-- each link by its name; a name that is not of this net gives an empty one
abbrev pub links_of : NetView → LinkName → NetLink
links_of net name =
    if nat_lt name.number (links_of_kind net.blades net.memories name.kind)
    then slice_index_or net.links (link_place net.blades name) empty_link
    else empty_link

abbrev pub kind_number : LinkKind → ℕ
kind_number Up = 0
kind_number Down = 1
kind_number To = 2
kind_number From = 3

abbrev pub same_link : LinkName → LinkName → Bool
same_link a b = kind_number a.kind == kind_number b.kind && a.number == b.number

-- the links when one of them became this one
abbrev pub put_link : LinkName → NetLink → (LinkName → NetLink) → LinkName → NetLink
put_link name link links other = if same_link name other then link else links other

-- every pending message is well formed, and every link is sound
pub record IsNet (net : NetView) : Type 0 where
  pub formed : (name : LinkName) → All IsWellFormed (links_of net name).pending
  pub sound : (name : LinkName) → IsLink (spelled (links_of net name))

-- no other link than this one changed, and there are as many blades
pub record ChangesOnly (name : LinkName) (old new : NetView) : Type 0 where
  pub others : links_of new ≡ put_link name (links_of new name) (links_of old)
  pub blades : new.blades ≡ old.blades
  pub memories : new.memories ≡ old.memories

-- the frames of one wire of a link
abbrev pub frames_on : NetView → LinkName → Side → List ℕ
frames_on net name side = wire_of (spelled (links_of net name)) side

-- the place of a wire among all: the message wire of each link and then its acknowledgement wire
abbrev pub wire_place : ℕ → LinkName → Side → ℕ
wire_place blades name Messages = 2 * link_place blades name
wire_place blades name Acks = 2 * link_place blades name + 1

-- the wire is the first that is not empty
pub record IsFirstFrame (net : NetView) (name : LinkName) (side : Side) : Type 0 where
  pub of_net : IsLinkOf net name
  pub some : 0 < length (frames_on net name side)
  pub first : (other : LinkName) (wire : Side) → IsLinkOf net other
      → wire_place net.blades other wire < wire_place net.blades name side → frames_on net other wire ≡ []

-- the wire that was found is the first that is not empty; none was, where all are empty
abbrev pub FindsFrame : NetView → Option (LinkName × Side) → Type 0
FindsFrame net None = (name : LinkName) (side : Side) → frames_on net name side ≡ []
FindsFrame net (Some found) = IsFirstFrame net found.0 found.1

-- the link is the first that keeps messages
pub record IsFirstKept (net : NetView) (name : LinkName) : Type 0 where
  pub of_net : IsLinkOf net name
  pub some : 0 < (links_of net name).kept
  pub first : (other : LinkName) → IsLinkOf net other → link_place net.blades other < link_place net.blades name
      → (links_of net other).kept ≡ 0

abbrev pub FindsKept : NetView → Option LinkName → Type 0
FindsKept net None = (name : LinkName) → (links_of net name).kept ≡ 0
FindsKept net (Some name) = IsFirstKept net name
