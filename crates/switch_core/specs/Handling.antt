-- What the switch does with a message, before it serves.
use Rattle.std.specs.Prelude.{◌≡◌, ℕ, zero, suc, ◌+◌, Bool, true, false, List, [], ◌∷◌, ◌++◌, ◌<◌, length, map, find, slice_get, All, Any, IsSome, Option, Some, None, Result, Ok, Err, if◌then◌else◌}
use Rattle.std.specs.List.{flat_map}
use Rattle.mind_base.specs.Page.{PageView}
use Rattle.mind_base.specs.Home.{home_of}
use Rattle.mind_base.specs.declared.failures.Stop.{Stop}
use Rattle.mind_base.specs.declared.links.LinkKind.{LinkKind}
use Rattle.mind_base.specs.declared.links.LinkKind.TheVariants.{Up, Down, To, From}
use Rattle.mind_base.specs.declared.links.LinkName.{LinkName}
use Rattle.mind_base.specs.declared.notes.Note.{Note}
use Rattle.mind_base.specs.declared.notes.Note.TheVariants as note
use Rattle.invalidate_multicast.specs.Transition.{acknowledged, is_answered, finished, target_of, WaitsFor}
use Rattle.page_image.specs.PageImage.{PageImageView}
use Rattle.protect_table.specs.Protect.{permission_at}
use Rattle.region_directory.specs.Entry.{changed_at}
use Rattle.region_directory.specs.declared.entries.Entry.{Entry}
use Rattle.request_list.specs.Requests.{is_of}
use Rattle.request_list.specs.declared.requests.Request.{Request}
use Rattle.wire_msg.specs.declared.msgs.Msg.{Msg}
use Rattle.wire_msg.specs.declared.msgs.Msg.TheVariants.{Get, Fill, Back, Ack, Image, Write}
use Rattle.switch_core.specs.Sending.{Begins, Comes, Start}
use Rattle.switch_core.specs.Switch.{SwitchView, SwitchEffect, with_entries, with_requests, place_in, only, and_then, to_blade, to_memory}
use Rattle.switch_core.specs.Serving.{Serves}
use Rattle.switch_core.specs.Treating.{without_request}

-- ---- a request, and the answer of a memory blade to it

abbrev pub request_noted : ℕ → PageView → Bool → SwitchView → SwitchEffect
request_noted blade page write switch = only (with_requests switch
    (switch.requests ++ record { blade = blade; page = page; write = write; fetching = false } ∷ []))

-- the request ends, and its blade gets the page: to write where that was asked for
abbrev pub filling : Option Request → PageImageView → SwitchView → SwitchEffect
filling None image switch = only switch
filling (Some r) image switch = record {
  switch = with_requests switch (without_request r switch.requests);
  sent = to_blade r.blade (Fill r.page (permission_at switch.protect r.page) r.write image) ∷ [];
  noted = [];
}

abbrev pub filled : Option ℕ → PageView → PageImageView → SwitchView → SwitchEffect
filled None page image switch = only switch
filled (Some blade) page image switch = filling (find (is_of blade page) switch.requests) image switch

-- ---- a page that comes back, and an acknowledgement

abbrev pub writing : Option (ℕ × ℕ) → PageImageView → List (LinkName × Msg)
writing None image = []
writing (Some place) image = to_memory place.0 (Write place.1 image) ∷ []

abbrev pub went_back : PageView → PageImageView → SwitchView → SwitchEffect
went_back page image switch = record { switch = switch; sent = writing (place_in switch page) image; noted = [] }

-- an entry that waits for nobody is in its target state, with no transition
abbrev pub ended : Entry → Entry
ended entry = if is_answered entry.busy then finished entry else entry

abbrev pub noted_end : Entry → List Note
noted_end entry = if is_answered entry.busy then note.Region entry.range (target_of entry entry.busy) ∷ [] else []

abbrev pub noted_at : Option Entry → List Note
noted_at None = []
noted_at (Some entry) = noted_end entry

-- the entry with this index ends its transition, if that waits for nobody
abbrev pub ended_at : ℕ → SwitchView → SwitchEffect
ended_at i switch = record {
  switch = with_entries switch (changed_at i ended switch.directory.entries);
  sent = [];
  noted = noted_at (slice_get switch.directory.entries i);
}

-- so do this many entries, from this index on, one after another
abbrev pub ended_over : ℕ → ℕ → SwitchEffect → SwitchEffect
ended_over zero i done = done
ended_over (suc left) i done = ended_over left (i + 1) (and_then done (ended_at i))

-- and all of them
abbrev pub ended_each : SwitchEffect → SwitchEffect
ended_each done = ended_over (length done.switch.directory.entries) 0 done

-- the blade is no longer waited for in entries with this number, and its count is one of hits
abbrev pub ack_heard : ℕ → ℕ → ℕ → SwitchView → SwitchEffect
ack_heard number blade count switch = only (with_entries switch (acknowledged number blade count switch.directory.entries))

abbrev pub answered : ℕ → ℕ → ℕ → SwitchView → SwitchEffect
answered number blade count switch = ended_each (ack_heard number blade count switch)

-- which is the same as all at once
abbrev pub all_ended : List Entry → SwitchView → SwitchEffect
all_ended entries switch =
    record { switch = with_entries switch (map ended entries); sent = []; noted = flat_map noted_end entries }

-- ---- messages

-- from a compute blade
abbrev pub from_blade : ℕ → Msg → SwitchView → SwitchEffect
from_blade blade (Get page write) switch = request_noted blade page write switch
from_blade blade (Back page image) switch = went_back page image switch
from_blade blade (Ack number count) switch = answered number blade count switch
from_blade blade message switch = only switch

-- from a memory blade
abbrev pub from_memory : Msg → SwitchView → SwitchEffect
from_memory (Image blade page image) switch = filled blade page image switch
from_memory message switch = only switch

abbrev pub handled_from : LinkKind → ℕ → Msg → SwitchView → SwitchEffect
handled_from Up number message switch = from_blade number message switch
handled_from From number message switch = from_memory message switch
handled_from Down number message switch = only switch
handled_from To number message switch = only switch

-- what `receive` does: the message is handled, and then the switch serves
abbrev pub Receives : LinkName → Msg → SwitchView → SwitchEffect → Type 0
Receives link message switch effect = Serves (handled_from link.kind link.number message switch) effect

-- ---- which messages may come

abbrev pub MayComeUp : SwitchView → ℕ → Msg → Type 0
MayComeUp switch blade (Get page write) = All (λ r. is_of blade page r ≡ false) switch.requests
MayComeUp switch blade (Back page image) = IsSome (home_of switch.table.homes page)
MayComeUp switch blade (Ack number count) = Any (λ entry. WaitsFor number blade entry.busy) switch.directory.entries
MayComeUp switch blade message = ⊥

abbrev pub MayComeFrom : SwitchView → Msg → Type 0
MayComeFrom switch (Image (Some blade) page image) = Any (λ r. (is_of blade page r ≡ true) × (r.fetching ≡ true)) switch.requests
MayComeFrom switch message = ⊥

-- which may come on a link: of a compute blade or of a memory blade of the rack
abbrev pub MayComeOn : SwitchView → LinkKind → ℕ → Msg → Type 0
MayComeOn switch Up number message = (number < length switch.plan.frames) × MayComeUp switch number message
MayComeOn switch From number message = (number < length switch.plan.memories) × MayComeFrom switch message
MayComeOn switch Down number message = ⊥
MayComeOn switch To number message = ⊥

abbrev pub MayComeToSwitch : SwitchView → LinkName → Msg → Type 0
MayComeToSwitch switch link message = MayComeOn switch link.kind link.number message

-- ---- what `receive` answers

-- The switch, the messages and the notes are those of what it does with the message. After an error the
-- messages and notes begin with what was there.
abbrev pub Received : Result (Unit {0}) Stop → LinkName → Msg → Start → SwitchView → List (LinkName × Msg) → List Note → Type 0
Received (Ok _) link message start switch out notes =
    (effect : SwitchEffect) × Receives link message start.switch effect × Comes start effect switch out notes
Received (Err _) link message start switch out notes = Begins start.out out × Begins start.notes notes

-- no request waits or is fetched, and no transition is under way
pub record IsQuietSwitch (switch : SwitchView) : Type 0 where
  pub requests : switch.requests ≡ []
  pub transitions : All (λ entry. entry.busy ≡ None) switch.directory.entries
