-- The directory entries in force, as the notes of a log tell them.
use Rattle.std.specs.Prelude.{ℕ, zero, suc, max, Bool, not, ◌&&◌, ◌==◌, List, [], ◌∷◌, ◌++◌, length, take, filter, fold, Option, Some, None, if◌then◌else◌}
use Rattle.std.specs.List.{list_any}
use Rattle.mind_base.specs.Range.{RangeView, halves_of, same_range}
use Rattle.mind_base.specs.declared.notes.Note.{Note}
use Rattle.mind_base.specs.declared.notes.Note.TheVariants as note

-- whether the block is among these
abbrev pub has_block : RangeView → List RangeView → Bool
has_block r blocks = list_any (λ b. same_range r b) blocks

-- the blocks without this one
abbrev pub without : RangeView → List RangeView → List RangeView
without r blocks = filter (λ b. not (same_range r b)) blocks

-- the blocks and this one, which counts once
abbrev pub entered : RangeView → List RangeView → List RangeView
entered r blocks = if has_block r blocks then blocks else blocks ++ r ∷ []

-- a block's two halves come in its place
abbrev pub split_into : RangeView → List RangeView → Option (RangeView × RangeView) → List RangeView
split_into r blocks None = blocks
split_into r blocks (Some halves) = if has_block r blocks then entered halves.1 (entered halves.0 (without r blocks)) else blocks

-- a block comes in the place of its two halves
abbrev pub merged_from : RangeView → List RangeView → Option (RangeView × RangeView) → List RangeView
merged_from r blocks None = blocks
merged_from r blocks (Some halves) =
    if has_block halves.0 blocks && has_block halves.1 blocks then entered r (without halves.1 (without halves.0 blocks)) else blocks

-- The blocks in force behind a note. A note of an entry that is not in force, and a split or merge of one
-- page, change nothing.
abbrev pub after_note : List RangeView → Note → List RangeView
after_note blocks (note.Region range state) = entered range blocks
after_note blocks (note.Gone range) = without range blocks
after_note blocks (note.Split range) = split_into range blocks (halves_of range)
after_note blocks (note.Merge range) = merged_from range blocks (halves_of range)
after_note blocks other = blocks

-- the blocks whose entries are in force at the end of the notes, none twice
abbrev pub blocks_in_force : List Note → List RangeView
blocks_in_force notes = fold after_note [] notes

-- the greatest number of entries in force behind the first n notes or fewer
abbrev pub peak_within : List Note → ℕ → ℕ
peak_within notes zero = 0
peak_within notes (suc n) = max (peak_within notes n) (length (blocks_in_force (take (suc n) notes)))

-- the greatest number of entries in force at any point of the log
abbrev pub peak : List Note → ℕ
peak notes = peak_within notes (length notes)
