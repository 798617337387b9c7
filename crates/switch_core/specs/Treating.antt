-- One waiting request is treated: it is denied, or granted, or a transition is begun for it, or it waits.
use Rattle.std.specs.Prelude.{ℕ, ◌+◌, ◌^◌, ◌==◌, Bool, true, false, not, List, [], ◌∷◌, map, filter, length, insert, remove, position, slice_get, is_none, Option, Some, None, option_map, unwrap_or, if◌then◌else◌}
use Rattle.std.specs.List.{list_any}
use Rattle.mind_base.specs.Page.{PageView}
use Rattle.mind_base.specs.Range.{RangeView, in_range}
use Rattle.mind_base.specs.declared.links.LinkName.{LinkName}
use Rattle.mind_base.specs.declared.notes.Note.{Note}
use Rattle.mind_base.specs.declared.notes.Note.TheVariants as note
use Rattle.mind_base.specs.declared.notes.State.{State}
use Rattle.mind_base.specs.declared.notes.State.TheVariants.{I, S, M}
use Rattle.mind_base.specs.Permission.{allows}
use Rattle.invalidate_multicast.specs.Blades.{has_blade, with_blade, without_blade, casts_of}
use Rattle.protect_table.specs.Protect.{permission_at}
use Rattle.region_directory.specs.Entry.{in_state, with_busy, changed_at, fresh_entry, largest_free, entry_place}
use Rattle.region_directory.specs.Room.{room_of}
use Rattle.region_directory.specs.declared.entries.Busy.{Busy}
use Rattle.region_directory.specs.declared.entries.Entry.{Entry}
use Rattle.region_directory.specs.declared.rooms.Room.{Room}
use Rattle.region_directory.specs.declared.rooms.Room.TheVariants.{Drop, Merge, Evict, Wait}
use Rattle.request_list.specs.Requests.{is_of, fetched_pages, fetching_at}
use Rattle.request_list.specs.declared.requests.Request.{Request}
use Rattle.wire_msg.specs.declared.msgs.Msg.{Msg}
use Rattle.wire_msg.specs.declared.msgs.Msg.TheVariants.{Deny, Inv, Lower, Read}
use Rattle.switch_core.specs.Switch.{SwitchView, SwitchEffect, with_entries, with_requests, place_in, only, and_then, to_blade, to_memory}

-- ---- a pass over the requests

-- what was done so far, the place of the request that comes next, and whether room is waited for
pub record Pass : Type 0 where
  pub done : SwitchEffect
  pub at : ℕ
  pub blocked : Bool

-- the request waits; the next one stands behind it
abbrev pub waits : Pass → Pass
waits pass = record pass { at = pass.at + 1 }

-- the request waits for room, and so do all later ones that need it
abbrev pub blocks : Pass → Pass
blocks pass = record pass { at = pass.at + 1; blocked = true }

-- something is done, and the next request stands behind this one, or in its place
abbrev pub does : (SwitchView → SwitchEffect) → Pass → Pass
does change pass = record pass { done = and_then pass.done change }

-- ---- states

-- the blades that a state names
abbrev pub holders : State → ℕ
holders I = 0
holders (S sharers) = sharers
holders (M owner) = 2 ^ owner

-- may the blade read, or write, at once
abbrev pub grants : Bool → ℕ → State → Bool
grants write blade I = true
grants false blade (S sharers) = true
grants true blade (S sharers) = without_blade sharers blade == 0
grants write blade (M owner) = owner == blade

-- the state when it may: a read in M leaves M
abbrev pub granted_state : Bool → ℕ → State → State
granted_state false blade I = S (2 ^ blade)
granted_state false blade (S sharers) = S (with_blade sharers blade)
granted_state false blade (M owner) = M owner
granted_state true blade state = M blade

abbrev pub same_state : State → State → Bool
same_state I I = true
same_state I (S other) = false
same_state I (M other) = false
same_state (S sharers) I = false
same_state (S sharers) (S other) = sharers == other
same_state (S sharers) (M other) = false
same_state (M owner) I = false
same_state (M owner) (S other) = false
same_state (M owner) (M other) = owner == other

-- ---- a request is denied

abbrev pub is_denied : SwitchView → Request → Bool
is_denied switch r = not (allows r.write (permission_at switch.protect r.page))

-- the request ends
abbrev pub without_request : Request → List Request → List Request
without_request r requests = filter (λ q. not (is_of r.blade r.page q)) requests

abbrev pub denied_request : Request → SwitchView → SwitchEffect
denied_request r switch = record {
  switch = with_requests switch (without_request r switch.requests);
  sent = to_blade r.blade (Deny r.page) ∷ [];
  noted = [];
}

-- ---- a request is granted

-- a note of the entry's state, where it has changed
abbrev pub noted_change : RangeView → State → State → List Note
noted_change range old new = if same_state old new then [] else note.Region range new ∷ []

-- the page is read from where it lies
abbrev pub reading : Request → Option (ℕ × ℕ) → List (LinkName × Msg)
reading r None = []
reading r (Some place) = to_memory place.0 (Read place.1 (Some r.blade) r.page) ∷ []

-- the request at this place fetches its page, and its blade is named by entry number i
abbrev pub granted : Request → ℕ → ℕ → Entry → SwitchView → SwitchEffect
granted r at i entry switch = record {
  switch = with_requests
      (with_entries switch (changed_at i (in_state (granted_state r.write r.blade entry.state)) switch.directory.entries))
      (fetching_at switch.requests at);
  sent = reading r (place_in switch r.page);
  noted = noted_change entry.range entry.state (granted_state r.write r.blade entry.state);
}

-- ---- a transition is begun

-- an invalidation to each blade of a set, in rising order
abbrev pub invalidations : ℕ → RangeView → Option PageView → ℕ → List (LinkName × Msg)
invalidations number range asked blades = map (λ cast. to_blade cast.blade (Inv number range asked)) (casts_of blades)

-- a transition of entry number i with the next number
abbrev pub with_transition : ℕ → Busy → List (LinkName × Msg) → SwitchView → SwitchEffect
with_transition i busy messages switch = record {
  switch = record (with_entries switch (changed_at i (with_busy (Some busy)) switch.directory.entries)) { last = busy.number };
  sent = messages;
  noted = [];
}

-- one that leads to this state, for which these blades give up what they hold of the block: for a page that is
-- asked for, or to make room
abbrev pub with_invalidations : ℕ → RangeView → Option PageView → ℕ → State → SwitchView → SwitchEffect
with_invalidations i range asked blades target switch = with_transition i
    (record { number = switch.last + 1; waiting = blades; target = target; for_room = is_none asked })
    (invalidations (switch.last + 1) range asked blades) switch

-- all holders give up what they hold of the block, to make room
abbrev pub cleared : ℕ → Entry → SwitchView → SwitchEffect
cleared i entry switch = with_invalidations i entry.range None (holders entry.state) I switch

-- for a write all other holders give up; the asking blade stays a sharer if it was one
abbrev pub left_to : ℕ → State → State
left_to blade I = I
left_to blade (S sharers) = if has_blade sharers blade then S (2 ^ blade) else I
left_to blade (M owner) = I

abbrev pub invalidated : Request → ℕ → Entry → SwitchView → SwitchEffect
invalidated r i entry switch =
    with_invalidations i entry.range (Some r.page) (without_blade (holders entry.state) r.blade) (left_to r.blade entry.state) switch

-- for a read the owner stays a sharer, and may write no longer
abbrev pub lowered : Request → ℕ → ℕ → Entry → SwitchView → SwitchEffect
lowered r owner i entry switch = with_transition i
    (record { number = switch.last + 1; waiting = 2 ^ owner; target = S (2 ^ owner); for_room = false })
    (to_blade owner (Lower (switch.last + 1) entry.range r.page) ∷ []) switch

-- a read needs a transition in M alone, a write wherever another blade is named
abbrev pub changed_for : Request → State → ℕ → Entry → SwitchView → SwitchEffect
changed_for r I i entry switch = only switch
changed_for r (S sharers) i entry switch = invalidated r i entry switch
changed_for r (M owner) i entry switch = if r.write then invalidated r i entry switch else lowered r owner i entry switch

-- ---- a request whose page has an entry

-- a page of the block is being fetched
abbrev pub is_fetched : RangeView → List Request → Bool
is_fetched range requests = list_any (in_range range) (fetched_pages requests)

-- A busy entry is waited for. Else the request is granted, or it waits for fetches from the block, or a
-- transition is begun for it.
abbrev pub with_idle : Request → ℕ → Entry → Pass → Pass
with_idle r i entry pass =
    if grants r.write r.blade entry.state then waits (does (granted r pass.at i entry) pass)
    else (if is_fetched entry.range pass.done.switch.requests then waits pass
    else waits (does (changed_for r entry.state i entry) pass))

abbrev pub with_entry : Request → ℕ → Option Entry → Pass → Pass
with_entry r i None pass = waits pass
with_entry r i (Some entry) pass = if is_none entry.busy then with_idle r i entry pass else waits pass

abbrev pub at_entry : Request → ℕ → Pass → Pass
at_entry r i pass = with_entry r i (slice_get pass.done.switch.directory.entries i) pass

-- ---- a request whose page has none

-- an entry for a block is put in its place, and nobody holds a page of it
abbrev pub entered : RangeView → SwitchView → SwitchEffect
entered range switch = record {
  switch = with_entries switch (insert switch.directory.entries (entry_place switch.directory.entries range) (fresh_entry range));
  sent = [];
  noted = note.Region range I ∷ [];
}

-- the block of a new entry: the largest free one with the page
abbrev pub new_range : PageView → SwitchView → RangeView
new_range page switch = largest_free switch.directory.entries page switch.plan.region

-- the entry is put in, and the request goes on with it
abbrev pub enters : Request → Pass → Pass
enters r pass = at_entry r
    (entry_place pass.done.switch.directory.entries (new_range r.page pass.done.switch))
    (does (entered (new_range r.page pass.done.switch)) pass)

-- an entry is dropped
abbrev pub dropped : ℕ → Entry → SwitchView → SwitchEffect
dropped i entry switch = record {
  switch = with_entries switch (remove switch.directory.entries i);
  sent = [];
  noted = note.Gone entry.range ∷ [];
}

-- room is made by the first rule that fits
abbrev pub with_room : Request → Room → Pass → Pass
with_room r (Drop i) pass = unwrap_or (option_map (λ entry. enters r (does (dropped i entry) pass)) (slice_get pass.done.switch.directory.entries i)) (blocks pass)
with_room r (Merge i) pass = blocks pass
with_room r (Evict i) pass = unwrap_or (option_map (λ entry. blocks (does (cleared i entry) pass)) (slice_get pass.done.switch.directory.entries i)) (blocks pass)
with_room r Wait pass = blocks pass

abbrev pub without_entry : Request → Pass → Pass
without_entry r pass =
    if pass.blocked then waits pass
    else (if length pass.done.switch.directory.entries == pass.done.switch.directory.slots
    then with_room r (room_of pass.done.switch.directory (fetched_pages pass.done.switch.requests)) pass
    else enters r pass)

-- ---- the request

-- the number of the entry that has the page
abbrev pub entry_for : PageView → List Entry → Option ℕ
entry_for page entries = position (λ entry. in_range entry.range page) entries

abbrev pub for_entry : Request → Option ℕ → Pass → Pass
for_entry r None pass = without_entry r pass
for_entry r (Some i) pass = at_entry r i pass

-- a request that fetches its page is left alone
abbrev pub treated : Request → Pass → Pass
treated r pass =
    if r.fetching then waits pass
    else (if is_denied pass.done.switch r then does (denied_request r) pass
    else for_entry r (entry_for r.page pass.done.switch.directory.entries) pass)
