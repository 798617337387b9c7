-- What is still to come in a rack without further events of its harts, as a number: each message that a node handles makes
-- it less.
use Rattle.std.specs.Prelude.{◌≡◌, ℕ, ◌+◌, ◌*◌, false, List, ◌∷◌, length, map, filter, drop, slice_get, Option, Some, if◌then◌else◌}
use Rattle.std.specs.List.{sum}
use Rattle.std.specs.Option.{option_map_or}
use Rattle.mind_base.specs.Cover.{sum_below}
use Rattle.mind_base.specs.Pending.{PendingView}
use Rattle.mind_base.specs.Place.{place_of, page_at}
use Rattle.mind_base.specs.declared.links.LinkKind.TheVariants.{Up, Down, To, From}
use Rattle.mind_base.specs.declared.links.LinkName.{LinkName}
use Rattle.mind_base.specs.declared.notes.State.{State}
use Rattle.mind_base.specs.declared.notes.State.TheVariants.{I, S, M}
use Rattle.mind_base.specs.declared.plans.ThreadPlan.{ThreadPlan}
use Rattle.invalidate_multicast.specs.Blades.{casts_of}
use Rattle.invalidate_multicast.specs.Transition.{target_of}
use Rattle.region_directory.specs.declared.entries.Entry.{Entry}
use Rattle.request_list.specs.declared.requests.Request.{Request}
use Rattle.wire_msg.specs.declared.msgs.Msg.{Msg}
use Rattle.wire_msg.specs.declared.msgs.Msg.TheVariants.{Get, Fill, Deny, Back, Inv, Lower, Ack, Close, Closed, Reopen, Read, Image, Write, Zero}
use Rattle.compute_blade.specs.Blade.{HartView, BladeView, hart_of, is_asked}
use Rattle.switch_core.specs.Switch.{SwitchView}
use Rattle.rack_net.specs.Net.{NetLink, NetView, links_of}
use Rattle.rack_core.specs.Rack.{RackView}

-- ---- messages

-- a message, with all that may come of it
abbrev pub weight_of : Msg → ℕ
weight_of (Get page write) = 14
weight_of (Read phys blade page) = 6
weight_of (Image blade page image) = 5
weight_of (Fill page perm writable image) = 4
weight_of (Deny page) = 1
weight_of (Inv number range asked) = 2
weight_of (Lower number range asked) = 2
weight_of (Ack number count) = 1
weight_of (Back page image) = 2
weight_of (Write phys image) = 1
weight_of (Close number span ends) = 3
weight_of (Closed number) = 1
weight_of (Reopen number) = 1
weight_of (Zero phys pages) = 1

abbrev pub messages_weight : List Msg → ℕ
messages_weight messages = sum (map weight_of messages)

-- messages of a node, each with its link
abbrev pub sent_weight : List (LinkName × Msg) → ℕ
sent_weight sent = sum (map (λ message. weight_of message.1) sent)

-- ---- nodes

-- the stores that a hart has still to drain, without the one that its drain waits for
abbrev pub left_to_drain : HartView → List PendingView
left_to_drain hart = if hart.draining then drop 1 hart.queue.stores else hart.queue.stores

-- a hart: each store that it has still to drain may ask for its page, and a step that waits may leave one store more
abbrev pub hart_weight : HartView → ℕ
hart_weight hart = 15 * (length (left_to_drain hart) + (if hart.stepping then 1 else 0))

abbrev pub harts_weight : List (Option HartView) → ℕ
harts_weight harts = sum (map (λ hart. option_map_or hart_weight hart 0) harts)

-- a compute blade: each page that it wrote may go back, and its harts
abbrev pub blade_weight : BladeView → ℕ
blade_weight blade = 3 * length (filter (λ held. held.1.dirty) blade.cache.entries) + harts_weight blade.harts

-- The blade's hart has a store to drain: its drain does not wait, and the page of its oldest store is not asked for.
pub record HasToDrain (h : ℕ) (blade : BladeView) : Type 0 where
  pub plan : ThreadPlan
  pub hart : HartView
  pub oldest : PendingView
  pub newer : List PendingView
  pub thread : slice_get blade.plan.threads h ≡ Some plan
  pub own : hart_of blade h ≡ Some hart
  pub idle : hart.draining ≡ false
  pub queue : hart.queue.stores ≡ oldest ∷ newer
  pub unasked : is_asked (page_at (place_of plan.domain oldest.address)) blade.requests ≡ false

-- a request that waits; one that is fetched has its Read or its Image under way
abbrev pub request_weight : Request → ℕ
request_weight r = if r.fetching then 0 else 13

-- each blade that may read or write may be asked to give up what it holds, or to write no longer
abbrev pub state_weight : State → ℕ
state_weight I = 0
state_weight (S sharers) = 3 * length (casts_of sharers)
state_weight (M owner) = 6

-- an entry, by the state in which its transition ends, if there is one
abbrev pub entry_weight : Entry → ℕ
entry_weight entry = state_weight (target_of entry entry.busy)

abbrev pub switch_weight : SwitchView → ℕ
switch_weight switch = sum (map request_weight switch.requests) + sum (map entry_weight switch.directory.entries)

-- ---- the rack

-- the sum of a number over all links of a net
abbrev pub over_links : (NetLink → ℕ) → NetView → ℕ
over_links number_of net =
    sum_below (λ c. number_of (links_of net (record { kind = Up; number = c })) + number_of (links_of net (record { kind = Down; number = c }))) net.blades
    + sum_below (λ m. number_of (links_of net (record { kind = To; number = m })) + number_of (links_of net (record { kind = From; number = m }))) net.memories

abbrev pub net_weight : NetView → ℕ
net_weight net = over_links (λ link. messages_weight link.pending) net

abbrev pub rack_weight : RackView → ℕ
rack_weight rack = sum (map blade_weight rack.blades) + switch_weight rack.switch + net_weight rack.net
