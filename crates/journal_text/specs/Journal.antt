-- The text of a log: a heading, and one line for each note.
use Rattle.std.specs.Prelude.{ℕ, ◌<◌, Bool, true, false, codes, List, ◌++◌}
use Rattle.std.specs.List.{flat_map, AllByRecursion}
use Rattle.std.specs.Fmt.{decimal}
use Rattle.mind_base.specs.Page.{PageView, IsPage}
use Rattle.mind_base.specs.Range.{RangeView, IsRange}
use Rattle.mind_base.specs.declared.notes.State.{State}
use Rattle.mind_base.specs.declared.notes.State.TheVariants as state
use Rattle.mind_base.specs.declared.notes.Note.{Note}
use Rattle.mind_base.specs.declared.notes.Note.TheVariants as note
use Rattle.mind_base.specs.OutcomeWord.{outcome_word}

abbrev pub page_text : PageView → List ℕ
page_text page = decimal page.domain ++ codes " " ++ decimal page.number

-- a block: its domain, its first page, and the logarithm of its pages
abbrev pub range_text : RangeView → List ℕ
range_text range = decimal range.domain ++ codes " " ++ decimal range.base ++ codes " " ++ decimal range.log

-- whether a page was taken to be written
abbrev pub access_word : Bool → List ℕ
access_word true = codes "w"
access_word false = codes "r"

-- held by nobody, by the sharers (a bit for each blade), or by one owner
abbrev pub state_text : State → List ℕ
state_text state.I = codes "i"
state_text (state.S sharers) = codes "s " ++ decimal sharers
state_text (state.M owner) = codes "m " ++ decimal owner

-- a line: the letter of the note and its parts, one space apart
abbrev pub note_line : Note → List ℕ
note_line (note.Event index) = codes "e " ++ decimal index ++ codes "\n"
note_line (note.Exec hart) = codes "x " ++ decimal hart ++ codes "\n"
note_line (note.Drain hart) = codes "d " ++ decimal hart ++ codes "\n"
note_line (note.Command index) = codes "c " ++ decimal index ++ codes "\n"
note_line (note.Moved index outcome) = codes "m " ++ decimal index ++ codes " " ++ outcome_word outcome ++ codes "\n"
note_line (note.Take blade page writable) = codes "t " ++ decimal blade ++ codes " " ++ page_text page ++ codes " " ++ access_word writable ++ codes "\n"
note_line (note.Give blade page) = codes "g " ++ decimal blade ++ codes " " ++ page_text page ++ codes "\n"
note_line (note.Down blade page) = codes "l " ++ decimal blade ++ codes " " ++ page_text page ++ codes "\n"
note_line (note.Region range state) = codes "r " ++ range_text range ++ codes " " ++ state_text state ++ codes "\n"
note_line (note.Gone range) = codes "o " ++ range_text range ++ codes "\n"
note_line (note.Split range) = codes "s " ++ range_text range ++ codes "\n"
note_line (note.Merge range) = codes "j " ++ range_text range ++ codes "\n"

abbrev pub heading : List ℕ
heading = codes "mind journal 1" ++ codes "\n"

-- the lines of notes, one behind the other
abbrev pub note_lines : List Note → List ℕ
note_lines notes = flat_map note_line notes

abbrev pub journal_text_of : List Note → List ℕ
journal_text_of notes = heading ++ note_lines notes

-- ---- what a journal may say

abbrev pub IsJournalState : State → Type 0
IsJournalState state.I = Unit {0}
IsJournalState (state.S sharers) = (0 < sharers) × (sharers < 256)
IsJournalState (state.M owner) = owner < 8

-- the page is one of a domain
abbrev pub IsNotedPage : PageView → Type 0
IsNotedPage page = IsPage page.domain page.number

-- the block is one of a domain
abbrev pub IsBlock : RangeView → Type 0
IsBlock range = IsRange range.domain range.base range.log

-- the numbers of a note are those of a rack and a schedule
abbrev pub IsJournalNote : Note → Type 0
IsJournalNote (note.Event index) = index < 1000000
IsJournalNote (note.Exec hart) = hart < 64
IsJournalNote (note.Drain hart) = hart < 64
IsJournalNote (note.Command index) = index < 1000000
IsJournalNote (note.Moved index outcome) = index < 1000000
IsJournalNote (note.Take blade page writable) = (blade < 8) × IsNotedPage page
IsJournalNote (note.Give blade page) = (blade < 8) × IsNotedPage page
IsJournalNote (note.Down blade page) = (blade < 8) × IsNotedPage page
IsJournalNote (note.Region range state) = IsBlock range × IsJournalState state
IsJournalNote (note.Gone range) = IsBlock range
IsJournalNote (note.Split range) = IsBlock range
IsJournalNote (note.Merge range) = IsBlock range

abbrev pub AreJournalNotes : List Note → Type 0
AreJournalNotes notes = AllByRecursion IsJournalNote notes
