-- An epoch as a list of steps, each with a directory before it and one behind it.
use Rattle.std.specs.Prelude.{◌≡◌, ℕ, List, [], ◌∷◌, map, Some, slice_get}
use Rattle.mind_base.specs.declared.notes.Note.{Note}
use Rattle.mind_base.specs.declared.notes.Note.TheVariants as note
use Rattle.region_directory.specs.Directory.{DirectoryView, IsDirectory}
use Rattle.region_directory.specs.Entry.{with_hits}
use Rattle.region_directory.specs.Merge.{merge_of, with_merge}
use Rattle.region_directory.specs.Split.{split_of, with_split}
use Rattle.region_directory.specs.declared.entries.Entry.{Entry}

-- entry number i and the next one become this one; entry number i, which is this one, becomes these two
pub data EpochStep : Type 0 where
  Joins : ℕ → Entry → EpochStep
  Parts : ℕ → Entry → Entry × Entry → EpochStep

-- the directory says that they do
abbrev pub MayStep : EpochStep → DirectoryView → Type 0
MayStep (Joins i whole) directory = merge_of directory i ≡ Some whole
MayStep (Parts i entry halves) directory = (slice_get directory.entries i ≡ Some entry) × (split_of directory i ≡ Some halves)

abbrev pub after_epoch_step : EpochStep → DirectoryView → DirectoryView
after_epoch_step (Joins i whole) directory = record directory { entries = with_merge i (Some whole) directory.entries }
after_epoch_step (Parts i entry halves) directory = record directory { entries = with_split i (Some halves) directory.entries }

-- a merge is noted by the block that is made, a split by the block that was split
abbrev pub epoch_step_note : EpochStep → Note
epoch_step_note (Joins i whole) = note.Merge whole.range
epoch_step_note (Parts i entry halves) = note.Split entry.range

-- each step in the directory that those before it left
abbrev pub MayStepEach : List EpochStep → DirectoryView → Type 0
MayStepEach [] directory = Unit {0}
MayStepEach (step ∷ steps) directory = MayStep step directory × MayStepEach steps (after_epoch_step step directory)

abbrev pub after_epoch_steps : List EpochStep → DirectoryView → DirectoryView
after_epoch_steps [] directory = directory
after_epoch_steps (step ∷ steps) directory = after_epoch_steps steps (after_epoch_step step directory)

-- each directory on the way is one
abbrev pub AreDirectories : List EpochStep → DirectoryView → Type 0
AreDirectories [] directory = IsDirectory directory
AreDirectories (step ∷ steps) directory = IsDirectory directory × AreDirectories steps (after_epoch_step step directory)

-- the directory with no hits
abbrev pub without_hits : DirectoryView → DirectoryView
without_hits directory = record directory { entries = map (with_hits 0) directory.entries }

-- one directory comes of another by steps, of which these are the notes, and then no entry has hits
pub record GoesBySteps (old new : DirectoryView) (notes : List Note) : Type 0 where
  pub steps : List EpochStep
  pub may : MayStepEach steps old
  pub noted : notes ≡ map epoch_step_note steps
  pub cleared : new ≡ without_hits (after_epoch_steps steps old)
