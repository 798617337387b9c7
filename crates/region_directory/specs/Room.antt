-- How a full directory makes room for one more entry.
use Rattle.std.specs.Prelude.{◌≡◌, ◌⊎◌, ◌<◌, All, Any, ℕ, suc, Bool, true, false, ◌&&◌, not, List, [], ◌∷◌, Option, Some, None, is_none, is_some, option_map, position, if◌then◌else◌}
use Rattle.std.specs.List.{list_any}
use Rattle.mind_base.specs.Page.{PageView}
use Rattle.mind_base.specs.declared.notes.State.{State}
use Rattle.mind_base.specs.declared.notes.State.TheVariants.{I, S, M}
use Rattle.mind_base.specs.Range.{in_range}
use Rattle.region_directory.specs.Directory.{DirectoryView}
use Rattle.region_directory.specs.Merge.{merged_entry, merge_of}
use Rattle.region_directory.specs.declared.entries.Busy.{Busy}
use Rattle.region_directory.specs.declared.entries.Entry.{Entry}
use Rattle.region_directory.specs.declared.rooms.Room.{Room}
use Rattle.region_directory.specs.declared.rooms.Room.TheVariants.{Drop, Merge, Evict, Wait}

-- the state names no blade
abbrev pub is_unheld : State → Bool
is_unheld I = true
is_unheld (S sharers) = false
is_unheld (M owner) = false

-- nobody holds a page of the entry, and no transition of it is under way
abbrev pub is_droppable : Entry → Bool
is_droppable entry = is_unheld entry.state && is_none entry.busy

-- the transition makes room
abbrev pub is_for_room : Option Busy → Bool
is_for_room None = false
is_for_room (Some busy) = busy.for_room

-- no transition of the entry is under way, and none of these pages is its
abbrev pub is_evictable : List PageView → Entry → Bool
is_evictable fetching entry = is_none entry.busy && not (list_any (in_range entry.range) fetching)

-- The first rule that fits: an entry is dropped; a transition that makes room is waited for; an entry is
-- taken from its holders; else nothing can be done yet.
abbrev pub first_rule : Option ℕ → Bool → Option ℕ → Room
first_rule (Some i) clearing evictable = Drop i
first_rule None true evictable = Wait
first_rule None false (Some i) = Evict i
first_rule None false None = Wait

-- what makes room in a full directory while these pages are being fetched
abbrev pub room_of : DirectoryView → List PageView → Room
room_of directory fetching = first_rule
    (position is_droppable directory.entries)
    (list_any (λ entry. is_for_room entry.busy) directory.entries)
    (position (is_evictable fetching) directory.entries)

-- no entry can be dropped, and a transition that makes room is under way or no entry can be taken from its holders
abbrev pub MustWait : DirectoryView → List PageView → Type 0
MustWait directory fetching =
    All (λ entry. is_droppable entry ≡ false) directory.entries
    × (Any (λ entry. is_for_room entry.busy ≡ true) directory.entries ⊎ All (λ entry. is_evictable fetching entry ≡ false) directory.entries)

-- the first entry that may become one with the next one
abbrev pub first_pair : ℕ → List Entry → Option ℕ
first_pair most [] = None
first_pair most (lower ∷ []) = None
first_pair most (lower ∷ upper ∷ rest) =
    if is_some (merged_entry most lower upper) then Some 0 else option_map suc (first_pair most (upper ∷ rest))

-- no entry may become one with the next one
abbrev pub IsUnpaired : DirectoryView → Type 0
IsUnpaired directory = (i : ℕ) → merge_of directory i ≡ None

-- As above, but that two entries become one before anything is waited for or taken.
abbrev pub first_merging_rule : Option ℕ → Option ℕ → Bool → Option ℕ → Room
first_merging_rule (Some i) pair clearing evictable = Drop i
first_merging_rule None (Some i) clearing evictable = Merge i
first_merging_rule None None clearing evictable = first_rule None clearing evictable

-- what makes room in a full directory, where entries are merged for it, while these pages are being fetched
abbrev pub room_by_merging : DirectoryView → List PageView → Room
room_by_merging directory fetching = first_merging_rule
    (position is_droppable directory.entries)
    (first_pair directory.most directory.entries)
    (list_any (λ entry. is_for_room entry.busy) directory.entries)
    (position (is_evictable fetching) directory.entries)

-- as MustWait, and no entry may become one with the next one
abbrev pub MustWaitUnpaired : DirectoryView → List PageView → Type 0
MustWaitUnpaired directory fetching = IsUnpaired directory × MustWait directory fetching

-- no entry can be dropped, and this is the first one that may become one with the next one
abbrev pub MergesFirst : DirectoryView → ℕ → Type 0
MergesFirst directory i =
    All (λ entry. is_droppable entry ≡ false) directory.entries
    × (is_some (merge_of directory i) ≡ true) × ((k : ℕ) → k < i → merge_of directory k ≡ None)
