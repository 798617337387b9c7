-- What is read of a journal, and why one is refused.
use Rattle.std.specs.Prelude.{◌≡◌, ℕ, ◌+◌, List, [], ◌++◌, length, Result, Ok, Err}
use Rattle.mind_base.specs.Log.{LogView}
use Rattle.mind_base.specs.declared.notes.Note.{Note}
use Rattle.journal_text.specs.Journal.{heading, note_line, note_lines, journal_text_of, IsJournalNote, AreJournalNotes}
use Rattle.journal_text.specs.declared.refusals.JournalFault.{JournalFault}
use Rattle.journal_text.specs.declared.refusals.JournalFault.TheVariants.{Head, Line}
use Rattle.journal_text.specs.declared.refusals.JournalRefusal.{JournalRefusal}
use Rattle.journal_text.specs.declared.refusals.JournalRefusal.TheVariants.{Refused, NoMemory}

-- the text does not begin with the heading
abbrev pub LacksHeading : List ℕ → Type 0
LacksHeading bytes = (rest : List ℕ) → bytes ≡ heading ++ rest → ⊥

-- no front of the text is the line of a note within bounds
abbrev pub LacksLine : List ℕ → Type 0
LacksLine bytes = (note : Note) (rest : List ℕ) → IsJournalNote note → bytes ≡ note_line note ++ rest → ⊥

-- Behind the heading stand the lines of notes within bounds, and then more, which does not begin with the line of one.
-- Lines count from 1, and the heading is the first.
pub record IsBadLine (lines : List ℕ) (line : ℕ) : Type 0 where
  pub notes : List Note
  pub rest : List ℕ
  pub within : AreJournalNotes notes
  pub front : lines ≡ note_lines notes ++ rest
  pub number : line ≡ length notes + 2
  pub some : rest ≡ [] → ⊥
  pub no_line : LacksLine rest

-- the fault is the first of the text, at this line
abbrev pub IsJournalFault : List ℕ → ℕ → JournalFault → Type 0
IsJournalFault bytes line Head = (line ≡ 1) × LacksHeading bytes
IsJournalFault bytes line Line = (lines : List ℕ) × (bytes ≡ heading ++ lines) × IsBadLine lines line

-- How a text is judged: it is the journal of these notes, whose numbers are within bounds, or it is none by this first
-- fault, at this line.
abbrev pub IsJudged : List ℕ → Result (List Note) (ℕ × JournalFault) → Type 0
IsJudged bytes (Ok notes) = AreJournalNotes notes × (bytes ≡ journal_text_of notes)
IsJudged bytes (Err (line, what)) = IsJournalFault bytes line what

-- a refusal names the first fault of the text, where it is not want of memory
abbrev pub IsRefusal : List ℕ → JournalRefusal → Type 0
IsRefusal bytes NoMemory = Unit {0}
IsRefusal bytes (Refused line what) = IsJournalFault bytes line what

abbrev pub IsWant : JournalRefusal → Type 0
IsWant NoMemory = Unit {0}
IsWant (Refused line what) = ⊥

-- the answer is these notes, or want of memory
abbrev pub ReadsOnly : List Note → Result LogView JournalRefusal → Type 0
ReadsOnly notes (Ok log) = log.notes ≡ notes
ReadsOnly notes (Err refusal) = IsWant refusal

-- the refusal of the lines behind the heading
abbrev pub IsLineRefusal : List ℕ → JournalRefusal → Type 0
IsLineRefusal lines NoMemory = Unit {0}
IsLineRefusal lines (Refused line Head) = ⊥
IsLineRefusal lines (Refused line Line) = IsBadLine lines line
