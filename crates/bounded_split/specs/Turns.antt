-- What turns of entries do to a directory and to its log.
use Rattle.std.specs.Prelude.{◌≡◌, ℕ, List, ◌++◌, length}
use Rattle.mind_base.specs.Log.{LogView}
use Rattle.mind_base.specs.declared.notes.Note.{Note}
use Rattle.region_directory.specs.Directory.{DirectoryView}
use Rattle.region_directory.specs.Merge.{with_merge}
use Rattle.region_directory.specs.Split.{with_split}
use Rattle.region_directory.specs.declared.entries.Entry.{Entry}
use Rattle.bounded_split.specs.Epoch.{cold_at, merge_noted, hot_at}
use Rattle.bounded_split.specs.Hot.{hot_block, split_noted}

-- the directory has these entries and is else as it was, the log has these notes more, and they are so many
pub record Turned (entries : List Entry) (told : List Note) (old new : DirectoryView) (log longer : LogView) (turns : ℕ) : Type 0 where
  pub changed : new ≡ record old { entries = entries }
  pub notes : longer.notes ≡ log.notes ++ told
  pub count : turns ≡ length told

-- entry number i and the next one become one, where both are cold and they may
abbrev pub MergesAt : ℕ → ℕ → DirectoryView → DirectoryView → LogView → LogView → ℕ → Type 0
MergesAt threshold i old new log longer turns =
    Turned (with_merge i (cold_at threshold old i) old.entries) (merge_noted (cold_at threshold old i)) old new log longer turns

-- entry number i becomes two, where the verdict says so and a slot is free
abbrev pub SplitsAt : ℕ → ℕ → DirectoryView → DirectoryView → LogView → LogView → ℕ → Type 0
SplitsAt threshold i old new log longer turns =
    Turned (with_split i (hot_at threshold old i) old.entries) (split_noted (hot_block threshold old i)) old new log longer turns
