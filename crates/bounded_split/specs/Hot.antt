-- The splits of an epoch, as the code goes over the entries that the merges left.
use Rattle.std.specs.Prelude.{ℕ, ◌-◌, List, [], ◌∷◌, length, slice_get, Option, Some, None, option_map, option_and_then}
use Rattle.std.specs.Option.{option_map_or}
use Rattle.mind_base.specs.Range.{RangeView}
use Rattle.mind_base.specs.declared.notes.Note.{Note}
use Rattle.mind_base.specs.declared.notes.Note.TheVariants as note
use Rattle.region_directory.specs.Directory.{DirectoryView}
use Rattle.region_directory.specs.declared.entries.Entry.{Entry}
use Rattle.bounded_split.specs.Epoch.{Turn, Stays, Splits, hot_split}

-- in order, each entry that is to be split, while a slot is free
abbrev pub hot_turns : ℕ → ℕ → List Entry → List Turn
hot_turns threshold free [] = []
hot_turns threshold free (entry ∷ entries) = option_map_or
    (λ halves. Splits entry halves ∷ hot_turns threshold (free - 1) entries)
    (hot_split threshold free entry)
    (Stays entry ∷ hot_turns threshold free entries)

abbrev pub hot_turns_in : ℕ → DirectoryView → List Turn
hot_turns_in threshold directory = hot_turns threshold (directory.slots - length directory.entries) directory.entries

-- the block of entry number i, where it is split
abbrev pub hot_block : ℕ → DirectoryView → ℕ → Option RangeView
hot_block threshold directory i = option_and_then
    (λ entry. option_map (λ _. entry.range) (hot_split threshold (directory.slots - length directory.entries) entry))
    (slice_get directory.entries i)

-- the note of a split, if there is one
abbrev pub split_noted : Option RangeView → List Note
split_noted None = []
split_noted (Some range) = note.Split range ∷ []
