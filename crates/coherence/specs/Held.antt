-- What a log tells of caches and directory: which blade holds which page, and which entries are in force.
use Rattle.std.specs.Prelude.{ℕ, Bool, false, List, fold, Option, Some, None, option_map, option_and_then, if◌then◌else◌}
use Rattle.mind_base.specs.Page.{PageView}
use Rattle.mind_base.specs.Range.{RangeView, halves_of, same_range}
use Rattle.mind_base.specs.declared.notes.Note.{Note}
use Rattle.mind_base.specs.declared.notes.Note.TheVariants as note
use Rattle.mind_base.specs.declared.notes.State.{State}
use Rattle.region_directory.specs.Merge.{merged_state}
use Rattle.coherence.specs.World.{put_both}

-- ---- pages that are held

-- by blade and page: not held, or held, and whether to write
abbrev pub Holdings : Type 0
Holdings = ℕ → PageView → Option Bool

abbrev pub no_holdings : Holdings
no_holdings = λ blade page. None

-- What a note changes. A second Take replaces the first; where a page is not held, a Down changes nothing.
abbrev pub held_after : Holdings → Note → Holdings
held_after held (note.Take blade page writable) = put_both blade page (Some writable) held
held_after held (note.Give blade page) = put_both blade page None held
held_after held (note.Down blade page) = put_both blade page (option_map (λ writable. false) (held blade page)) held
held_after held (note.Event index) = held
held_after held (note.Exec hart) = held
held_after held (note.Drain hart) = held
held_after held (note.Command index) = held
held_after held (note.Moved index outcome) = held
held_after held (note.Region range state) = held
held_after held (note.Gone range) = held
held_after held (note.Split range) = held
held_after held (note.Merge range) = held

-- who holds what at the end of the notes
abbrev pub held_by : List Note → Holdings
held_by notes = fold held_after no_holdings notes

-- ---- entries in force

-- by block: the state of its entry, where one is in force
abbrev pub Entries : Type 0
Entries = RangeView → Option State

abbrev pub no_entries : Entries
no_entries = λ range. None

-- one block's entry becomes this one, or none
abbrev pub put_entry : RangeView → Option State → Entries → Entries
put_entry range state entries other = if same_range range other then state else entries other

-- a block's two halves come in its place, in its state; where it is not in force, nothing changes
abbrev pub split_in : Entries → Option State → RangeView → Option (RangeView × RangeView) → Entries
split_in entries None range halves = entries
split_in entries (Some state) range None = entries
split_in entries (Some state) range (Some halves) =
    put_entry halves.1 (Some state) (put_entry halves.0 (Some state) (put_entry range None entries))

-- the state of a block that is made of two halves in force, where their states go together
abbrev pub joint_state : Entries → RangeView × RangeView → Option State
joint_state entries halves =
    option_and_then (λ lower. option_and_then (λ upper. merged_state lower upper) (entries halves.1)) (entries halves.0)

-- a block comes in the place of its two halves; where they do not go together, nothing changes
abbrev pub merged_to : Entries → RangeView → RangeView × RangeView → Option State → Entries
merged_to entries range halves None = entries
merged_to entries range halves (Some state) =
    put_entry range (Some state) (put_entry halves.1 None (put_entry halves.0 None entries))

abbrev pub merged_in : Entries → RangeView → Option (RangeView × RangeView) → Entries
merged_in entries range None = entries
merged_in entries range (Some halves) = merged_to entries range halves (joint_state entries halves)

-- what a note changes
abbrev pub entries_after : Entries → Note → Entries
entries_after entries (note.Region range state) = put_entry range (Some state) entries
entries_after entries (note.Gone range) = put_entry range None entries
entries_after entries (note.Split range) = split_in entries (entries range) range (halves_of range)
entries_after entries (note.Merge range) = merged_in entries range (halves_of range)
entries_after entries (note.Event index) = entries
entries_after entries (note.Exec hart) = entries
entries_after entries (note.Drain hart) = entries
entries_after entries (note.Command index) = entries
entries_after entries (note.Moved index outcome) = entries
entries_after entries (note.Take blade page writable) = entries
entries_after entries (note.Give blade page) = entries
entries_after entries (note.Down blade page) = entries

-- the entries in force at the end of the notes
abbrev pub in_force : List Note → Entries
in_force notes = fold entries_after no_entries notes
