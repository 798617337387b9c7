-- What the switch does when it serves, taken apart into deeds: each changes the switch in one way, and makes one note
-- at most.
use Rattle.std.specs.Prelude.{◌≡◌, ◌≢◌, ℕ, ◌+◌, ◌^◌, ◌==◌, All, Bool, true, false, List, [], ◌∷◌, length, slice_get, Some, None}
use Rattle.mind_base.specs.Page.{PageView}
use Rattle.mind_base.specs.Range.{in_range}
use Rattle.mind_base.specs.declared.links.LinkName.{LinkName}
use Rattle.mind_base.specs.declared.notes.State.{State}
use Rattle.mind_base.specs.declared.notes.State.TheVariants.{I, S, M}
use Rattle.invalidate_multicast.specs.Blades.{without_blade}
use Rattle.region_directory.specs.declared.entries.Busy.{Busy}
use Rattle.region_directory.specs.declared.entries.Entry.{Entry}
use Rattle.request_list.specs.declared.requests.Request.{Request}
use Rattle.wire_msg.specs.declared.msgs.Msg.{Msg}
use Rattle.wire_msg.specs.declared.msgs.Msg.TheVariants.{Lower}
use Rattle.switch_core.specs.Handling.{handled_from}
use Rattle.switch_core.specs.Switch.{SwitchView, SwitchEffect, only, and_then, to_blade}
use Rattle.switch_core.specs.Treating.{denied_request, dropped, entered, granted, grants, holders, invalidations, is_denied, is_fetched, left_to, new_range, with_transition}

-- ---- what a transition is for

-- to make room, for a request to write, or for one to read what another blade may write
pub data Purpose : Type 0 where
  MakesRoom : Purpose
  LetsWrite : (r : Request) → Purpose
  LetsRead : (r : Request) (owner : ℕ) → Purpose

-- it waits for these blades of a state, and leads to this state
abbrev pub waiting_for : Purpose → State → ℕ
waiting_for MakesRoom state = holders state
waiting_for (LetsWrite r) state = without_blade (holders state) r.blade
waiting_for (LetsRead r owner) state = 2 ^ owner

abbrev pub target_for : Purpose → State → State
target_for MakesRoom state = I
target_for (LetsWrite r) state = left_to r.blade state
target_for (LetsRead r owner) state = S (2 ^ owner)

abbrev pub makes_room : Purpose → Bool
makes_room MakesRoom = true
makes_room (LetsWrite r) = false
makes_room (LetsRead r owner) = false

abbrev pub transition_for : Purpose → ℕ → State → Busy
transition_for purpose number state =
    record { number = number; waiting = waiting_for purpose state; target = target_for purpose state; for_room = makes_room purpose }

-- and calls them: to give up what they hold of the block, or to write it no longer
abbrev pub calls_for : Purpose → ℕ → Entry → List (LinkName × Msg)
calls_for MakesRoom number entry = invalidations number entry.range None (holders entry.state)
calls_for (LetsWrite r) number entry = invalidations number entry.range (Some r.page) (without_blade (holders entry.state) r.blade)
calls_for (LetsRead r owner) number entry = to_blade owner (Lower number entry.range r.page) ∷ []

abbrev pub begun_for : Purpose → ℕ → Entry → SwitchView → SwitchEffect
begun_for purpose i entry switch =
    with_transition i (transition_for purpose (switch.last + 1) entry.state) (calls_for purpose (switch.last + 1) entry) switch

-- ---- the deeds

-- A request, at its place in the list, is denied, or granted by entry number i; a transition of entry number i begins;
-- an entry for the largest free block with the page is put in; and entry number i is dropped.
pub data SwitchDeed : Type 0 where
  DeniesRequest : (r : Request) (at : ℕ) → SwitchDeed
  GrantsRequest : (r : Request) (at i : ℕ) (entry : Entry) → SwitchDeed
  BeginsTransition : (purpose : Purpose) (i : ℕ) (entry : Entry) → SwitchDeed
  EntersBlock : (page : PageView) → SwitchDeed
  DropsEntry : (i : ℕ) (entry : Entry) → SwitchDeed

abbrev pub after_deed : SwitchDeed → SwitchView → SwitchEffect
after_deed (DeniesRequest r at) switch = denied_request r switch
after_deed (GrantsRequest r at i entry) switch = granted r at i entry switch
after_deed (BeginsTransition purpose i entry) switch = begun_for purpose i entry switch
after_deed (EntersBlock page) switch = entered (new_range page switch) switch
after_deed (DropsEntry i entry) switch = dropped i entry switch

-- ---- when each may be done, by the switch alone

-- a request stands at its place and does not fetch yet
pub record IsWaiting (r : Request) (at : ℕ) (switch : SwitchView) : Type 0 where
  pub stands : slice_get switch.requests at ≡ Some r
  pub waiting : r.fetching ≡ false

-- entry number i is this one, with no transition
pub record IsIdle (i : ℕ) (entry : Entry) (switch : SwitchView) : Type 0 where
  pub found : slice_get switch.directory.entries i ≡ Some entry
  pub idle : entry.busy ≡ None

pub record MayBeDenied (r : Request) (at : ℕ) (switch : SwitchView) : Type 0 where
  pub request : IsWaiting r at switch
  pub denied : is_denied switch r ≡ true

-- the request is allowed, and the entry has its page and grants it
pub record MayBeGranted (r : Request) (at i : ℕ) (entry : Entry) (switch : SwitchView) : Type 0 where
  pub request : IsWaiting r at switch
  pub allowed : is_denied switch r ≡ false
  pub idle : IsIdle i entry switch
  pub within : in_range entry.range r.page ≡ true
  pub grants : grants r.write r.blade entry.state ≡ true

-- room is made where blades hold pages, and a request that waits is not granted by the state
abbrev pub HasPurpose : Purpose → Entry → SwitchView → Type 0
HasPurpose MakesRoom entry switch = entry.state ≢ I
HasPurpose (LetsWrite r) entry switch = (at : ℕ) × IsWaiting r at switch × (in_range entry.range r.page ≡ true) × (grants true r.blade entry.state ≡ false)
HasPurpose (LetsRead r owner) entry switch =
    (at : ℕ) × IsWaiting r at switch × (in_range entry.range r.page ≡ true) × (entry.state ≡ M owner) × ((owner == r.blade) ≡ false)

-- nothing of the block is being fetched
pub record MayBegin (purpose : Purpose) (i : ℕ) (entry : Entry) (switch : SwitchView) : Type 0 where
  pub idle : IsIdle i entry switch
  pub unfetched : is_fetched entry.range switch.requests ≡ false
  pub serves : HasPurpose purpose entry switch

-- no entry has the page, and a slot is free
pub record MayEnter (page : PageView) (switch : SwitchView) : Type 0 where
  pub none : All (λ entry. in_range entry.range page ≡ false) switch.directory.entries
  pub room : (length switch.directory.entries == switch.directory.slots) ≡ false

-- nobody holds a page of the block
pub record MayDrop (i : ℕ) (entry : Entry) (switch : SwitchView) : Type 0 where
  pub idle : IsIdle i entry switch
  pub unheld : entry.state ≡ I

abbrev pub MayDo : SwitchDeed → SwitchView → Type 0
MayDo (DeniesRequest r at) switch = MayBeDenied r at switch
MayDo (GrantsRequest r at i entry) switch = MayBeGranted r at i entry switch
MayDo (BeginsTransition purpose i entry) switch = MayBegin purpose i entry switch
MayDo (EntersBlock page) switch = MayEnter page switch
MayDo (DropsEntry i entry) switch = MayDrop i entry switch

-- ---- deeds in a row

abbrev pub after_deeds : List SwitchDeed → SwitchView → SwitchEffect
after_deeds [] switch = only switch
after_deeds (deed ∷ deeds) switch = and_then (after_deed deed switch) (after_deeds deeds)

abbrev pub MayDoEach : List SwitchDeed → SwitchView → Type 0
MayDoEach [] switch = Unit {0}
MayDoEach (deed ∷ deeds) switch = MayDo deed switch × MayDoEach deeds (after_deed deed switch).switch

-- behind what was done first, the rest is a row of deeds that may be done
pub record IsDeedsAfter (first last : SwitchEffect) : Type 0 where
  pub deeds : List SwitchDeed
  pub done : last ≡ and_then first (after_deeds deeds)
  pub may : MayDoEach deeds first.switch

-- what is done with a message is what the message itself does, and then deeds
abbrev pub IsDeedsOf : LinkName → Msg → SwitchView → SwitchEffect → Type 0
IsDeedsOf link message switch effect = IsDeedsAfter (handled_from link.kind link.number message switch) effect
