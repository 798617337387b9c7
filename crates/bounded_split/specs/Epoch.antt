-- What an epoch does to the entries of the directory, by the verdicts on them as it finds them.
use Rattle.std.specs.Prelude.{ℕ, ◌+◌, ◌-◌, nat_lt, ◌&&◌, List, [], ◌∷◌, ◌++◌, length, map, sum_by, slice_get, Option, Some, None, option_and_then, if◌then◌else◌}
use Rattle.std.specs.List.{flat_map}
use Rattle.std.specs.Option.{option_map_or}
use Rattle.mind_base.specs.declared.notes.Note.{Note}
use Rattle.mind_base.specs.declared.notes.Note.TheVariants as note
use Rattle.region_directory.specs.Directory.{DirectoryView}
use Rattle.region_directory.specs.Entry.{with_hits}
use Rattle.region_directory.specs.Merge.{merged_entry}
use Rattle.region_directory.specs.Split.{split_entry}
use Rattle.region_directory.specs.declared.entries.Entry.{Entry}
use Rattle.bounded_split.specs.Verdict.{verdict_of, is_split, is_cold}
use Rattle.bounded_split.specs.declared.loads.Verdict.{Verdict}

-- what becomes of entries: one stays; one is made of two; two are made of one
pub data Turn : Type 0 where
  Stays : Entry → Turn
  Merges : Entry → Turn
  Splits : Entry → Entry × Entry → Turn

-- the verdict on an entry
abbrev pub judged : ℕ → Entry → Verdict
judged threshold entry = verdict_of threshold (record { log = entry.range.log; hits = entry.hits })

-- ---- first the merges

-- what two entries become: one, where both are cold and they may
abbrev pub cold_merge : ℕ → ℕ → Entry → Entry → Option Entry
cold_merge threshold most lower upper =
    if is_cold (judged threshold lower) && is_cold (judged threshold upper) then merged_entry most lower upper else None

-- what entry number i and the next one become
abbrev pub cold_at : ℕ → DirectoryView → ℕ → Option Entry
cold_at threshold directory i = option_and_then
    (λ lower. option_and_then (cold_merge threshold directory.most lower) (slice_get directory.entries (i + 1)))
    (slice_get directory.entries i)

-- the note of a merge, if there is one
abbrev pub merge_noted : Option Entry → List Note
merge_noted None = []
merge_noted (Some whole) = note.Merge whole.range ∷ []

-- In order, each two neighbours that become one; no entry is in two of these. The first entry, if it is given, has
-- passed the one before it.
abbrev pub turns_behind : ℕ → ℕ → Option Entry → List Entry → List Turn
turns_behind threshold most None [] = []
turns_behind threshold most (Some lower) [] = Stays lower ∷ []
turns_behind threshold most None (entry ∷ entries) = turns_behind threshold most (Some entry) entries
turns_behind threshold most (Some lower) (upper ∷ entries) = option_map_or
    (λ whole. Merges whole ∷ turns_behind threshold most None entries)
    (cold_merge threshold most lower upper)
    (Stays lower ∷ turns_behind threshold most (Some upper) entries)

abbrev pub merged_turns : ℕ → ℕ → List Entry → List Turn
merged_turns threshold most entries = turns_behind threshold most None entries

-- ---- then the splits

-- what an entry is split into, where the verdict says so and a slot is free
abbrev pub hot_split : ℕ → ℕ → Entry → Option (Entry × Entry)
hot_split threshold free entry = if nat_lt 0 free && is_split (judged threshold entry) then split_entry entry else None

-- what entry number i is split into
abbrev pub hot_at : ℕ → DirectoryView → ℕ → Option (Entry × Entry)
hot_at threshold directory i =
    option_and_then (hot_split threshold (directory.slots - length directory.entries)) (slice_get directory.entries i)

-- In order, each entry that stayed and is to be split, while a slot is free. One that was merged is not split.
abbrev pub split_turns : ℕ → ℕ → List Turn → List Turn
split_turns threshold free [] = []
split_turns threshold free (Stays entry ∷ turns) = option_map_or
    (λ halves. Splits entry halves ∷ split_turns threshold (free - 1) turns)
    (hot_split threshold free entry)
    (Stays entry ∷ split_turns threshold free turns)
split_turns threshold free (Merges whole ∷ turns) = Merges whole ∷ split_turns threshold free turns
split_turns threshold free (Splits entry halves ∷ turns) = Splits entry halves ∷ split_turns threshold free turns

-- ---- what is left, and what is noted

abbrev pub left_by : Turn → List Entry
left_by (Stays entry) = entry ∷ []
left_by (Merges whole) = whole ∷ []
left_by (Splits entry halves) = halves.0 ∷ halves.1 ∷ []

abbrev pub entries_left : List Turn → List Entry
entries_left turns = flat_map left_by turns

abbrev pub merge_note : Turn → List Note
merge_note (Stays entry) = []
merge_note (Merges whole) = note.Merge whole.range ∷ []
merge_note (Splits entry halves) = []

abbrev pub split_note : Turn → List Note
split_note (Stays entry) = []
split_note (Merges whole) = []
split_note (Splits entry halves) = note.Split entry.range ∷ []

-- a note of each merge, by the block that is made, and of each split, by the block that was split
abbrev pub merge_notes : List Turn → List Note
merge_notes turns = flat_map merge_note turns

abbrev pub split_notes : List Turn → List Note
split_notes turns = flat_map split_note turns

-- ---- the whole epoch

abbrev pub turns_of_merges : ℕ → DirectoryView → List Turn
turns_of_merges threshold directory = merged_turns threshold directory.most directory.entries

-- all turns of an epoch
abbrev pub epoch_turns : ℕ → DirectoryView → List Turn
epoch_turns threshold directory = split_turns threshold
    (directory.slots - length (entries_left (turns_of_merges threshold directory)))
    (turns_of_merges threshold directory)

-- the directory behind an epoch: no entry has hits
abbrev pub after_epoch : ℕ → DirectoryView → DirectoryView
after_epoch threshold directory = record directory { entries = map (with_hits 0) (entries_left (epoch_turns threshold directory)) }

-- the notes of an epoch: the merges in order, and then the splits in order
abbrev pub epoch_notes : ℕ → DirectoryView → List Note
epoch_notes threshold directory = merge_notes (epoch_turns threshold directory) ++ split_notes (epoch_turns threshold directory)

-- the hits of all entries
abbrev pub total_hits : List Entry → ℕ
total_hits entries = sum_by (λ entry. entry.hits) entries
