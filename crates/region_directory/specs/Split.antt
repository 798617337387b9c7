-- How an entry of a directory becomes two.
use Rattle.std.specs.Prelude.{ℕ, ◌+◌, ◌==◌, List, ◌∷◌, ◌++◌, length, take, drop, Option, Some, None, slice_get, option_map, option_and_then, if◌then◌else◌}
use Rattle.mind_base.specs.Range.{RangeView, halves_of}
use Rattle.region_directory.specs.Directory.{DirectoryView}
use Rattle.region_directory.specs.declared.entries.Entry.{Entry}

-- an entry for one half of an entry's block: in its state, in its transition if one is under way, and with no hits
abbrev pub half_entry : Entry → RangeView → Entry
half_entry entry half = record { range = half; state = entry.state; busy = entry.busy; hits = 0 }

-- the entries for the two halves of an entry's block, the lower one first; one page has none
abbrev pub split_entry : Entry → Option (Entry × Entry)
split_entry entry = option_map (λ halves. (half_entry entry halves.0, half_entry entry halves.1)) (halves_of entry.range)

-- what entry number i is split into; None where every slot has an entry, or its block is one page
abbrev pub split_of : DirectoryView → ℕ → Option (Entry × Entry)
split_of directory i =
    if length directory.entries == directory.slots then None else option_and_then split_entry (slice_get directory.entries i)

-- the list in which two entries, if they are given, stand in the place of entry number i
abbrev pub with_split : ℕ → Option (Entry × Entry) → List Entry → List Entry
with_split i None entries = entries
with_split i (Some halves) entries = take i entries ++ halves.0 ∷ halves.1 ∷ drop (i + 1) entries
