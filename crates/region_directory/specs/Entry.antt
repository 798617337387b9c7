-- Entries of a directory, and changes of their list.
use Rattle.std.specs.Prelude.{ℕ, ◌+◌, ◌-◌, ◌^◌, min, zero, suc, List, [], ◌∷◌, None, IsSomeAnd, slice_get, All, count_by, Option, if◌then◌else◌}
use Rattle.std.specs.List.{list_all}
use Rattle.mind_base.specs.Page.{PageView}
use Rattle.mind_base.specs.Range.{RangeView, InRange}
use Rattle.mind_base.specs.declared.notes.State.{State}
use Rattle.mind_base.specs.declared.notes.State.TheVariants.{I}
use Rattle.region_directory.specs.Block.{AreBlocksApart, is_before, are_apart, block_of}
use Rattle.region_directory.specs.declared.changes.Change.{Change}
use Rattle.region_directory.specs.declared.changes.Change.TheVariants as change
use Rattle.region_directory.specs.declared.entries.Busy.{Busy}
use Rattle.region_directory.specs.declared.entries.Entry.{Entry}

-- entry number i is there, and the page is one of its block's
abbrev pub HasPage : List Entry → ℕ → PageView → Type 0
HasPage entries i page = IsSomeAnd (slice_get entries i) (λ entry. InRange entry.range page)

-- no entry has the page
abbrev pub NoneHas : List Entry → PageView → Type 0
NoneHas entries page = All (λ entry. InRange entry.range page → ⊥) entries

-- the block has no page of any entry
abbrev pub MeetsNone : List Entry → RangeView → Type 0
MeetsNone entries range = All (λ entry. AreBlocksApart entry.range range) entries

-- how many entries come before the block: its place in their order
abbrev pub entry_place : List Entry → RangeView → ℕ
entry_place entries range = count_by (λ entry. is_before entry.range range) entries

-- an entry for a block of which nobody holds a page
abbrev pub fresh_entry : RangeView → Entry
fresh_entry range = record { range = range; state = I; busy = None; hits = 0 }

-- the entry in another state
abbrev pub in_state : State → Entry → Entry
in_state state entry = record { range = entry.range; state = state; busy = entry.busy; hits = entry.hits }

-- the entry with another transition, or with none
abbrev pub with_busy : Option Busy → Entry → Entry
with_busy busy entry = record { range = entry.range; state = entry.state; busy = busy; hits = entry.hits }

-- the entry with this many hits
abbrev pub with_hits : ℕ → Entry → Entry
with_hits hits entry = record { range = entry.range; state = entry.state; busy = entry.busy; hits = hits }

-- the entry with hits added, up to the greatest 32-bit number
abbrev pub plus_hits : ℕ → Entry → Entry
plus_hits count entry = with_hits (min (entry.hits + count) (2 ^ 32 - 1)) entry

-- the entry when this has changed of it
abbrev pub with_change : Change → Entry → Entry
with_change (change.State state) entry = in_state state entry
with_change (change.Busy busy) entry = with_busy busy entry
with_change (change.Hits count) entry = plus_hits count entry

-- the list in which entry number i alone is changed
abbrev pub changed_at : ℕ → (Entry → Entry) → List Entry → List Entry
changed_at i change [] = []
changed_at zero change (entry ∷ entries) = change entry ∷ entries
changed_at (suc i) change (entry ∷ entries) = entry ∷ changed_at i change entries

-- the largest aligned block with the page, of at most 2 ^ log pages, that shares no page with an entry; a
-- page that no entry has is always a free block
abbrev pub largest_free : List Entry → PageView → ℕ → RangeView
largest_free entries page zero = block_of page 0
largest_free entries page (suc log) =
    if list_all (λ entry. are_apart entry.range (block_of page (suc log))) entries
    then block_of page (suc log)
    else largest_free entries page log
