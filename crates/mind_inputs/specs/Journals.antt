-- A journal, read and judged behind the inputs of a run.
use Rattle.std.specs.Prelude.{◌≡◌, ℕ, List, Option, Some, Result, Ok, Err}
use Rattle.mind_base.specs.Log.{LogView}
use Rattle.mind_base.specs.Store.{Files}
use Rattle.mind_base.specs.declared.notes.Note.{Note}
use Rattle.journal_text.specs.Journal.{AreJournalNotes, journal_text_of}
use Rattle.journal_text.specs.Reading.{IsJournalFault}
use Rattle.journal_text.specs.declared.refusals.JournalFault.{JournalFault}
use Rattle.mind_inputs.specs.Inputs.{Seen, Absent, Long, Bytes, Ending, Missing, Refused, Accepted, Judged, SeesFile, Judges}
use Rattle.mind_inputs.specs.Words.{Paths}
use Rattle.mind_inputs.specs.declared.refusals.Refusal.TheVariants.{JournalRefused, JournalLong}
use Rattle.mind_inputs.specs.declared.stopped.Stopped.{Stopped}
use Rattle.mind_inputs.specs.declared.stopped.Stopped.TheVariants as stopped

-- ---- one journal

-- the bytes are the text of these notes, whose numbers are within bounds; or this is their first fault
abbrev pub IsJournal : List ℕ → Result (List Note) Ending → Type 0
IsJournal bytes (Ok notes) = AreJournalNotes notes × (bytes ≡ journal_text_of notes)
IsJournal bytes (Err ending) = (line : ℕ) × (what : JournalFault) × (ending ≡ Refused (JournalRefused line what)) × IsJournalFault bytes line what

-- a journal is judged so by what is seen of it
abbrev pub JudgedJournal : Seen → Result (List Note) Ending → Type 0
JudgedJournal Absent answer = answer ≡ Err Missing
JudgedJournal Long answer = answer ≡ Err (Refused JournalLong)
JudgedJournal (Bytes bytes) answer = IsJournal bytes answer

-- the journal of this name is judged so
abbrev pub JudgesJournal : Option Files → List ℕ → Result (List Note) Ending → Type 0
JudgesJournal holds name answer = (seen : Seen) × SeesFile holds name 268435456 seen × JudgedJournal seen answer

-- the notes of a log that was read
abbrev pub notes_of : Result LogView Stopped → Result (List Note) Stopped
notes_of (Ok log) = Ok log.notes
notes_of (Err why) = Err why

-- code that was given the bytes of a journal answers as they are judged, unless memory ran out
abbrev pub GivesJournal : List ℕ → Result LogView Stopped → Type 0
GivesJournal bytes (Ok log) = IsJournal bytes (Ok log.notes)
GivesJournal bytes (Err (stopped.Refused refusal)) = IsJournal bytes (Err (Refused refusal))
GivesJournal bytes (Err stopped.ReadFault) = ⊥
GivesJournal bytes (Err stopped.NoMemory) = Unit {0}

-- ---- behind the inputs of a run

-- what is checked: the inputs of a run, and the notes of a journal
pub record Checkable : Type 0 where
  pub accepted : Accepted
  pub notes : List Note

abbrev pub AfterJournal : Accepted → Result (List Note) Ending → Result Checkable Ending → Type 0
AfterJournal accepted (Err ending) answer = answer ≡ Err ending
AfterJournal accepted (Ok notes) answer = answer ≡ Ok (record { accepted = accepted; notes = notes })

abbrev pub AfterRun : Option Files → List ℕ → Judged → Result Checkable Ending → Type 0
AfterRun holds journal (Err ending) answer = answer ≡ Err ending
AfterRun holds journal (Ok accepted) answer = (notes : Result (List Note) Ending) × JudgesJournal holds journal notes × AfterJournal accepted notes answer

-- the inputs of a run are read and judged, then the journal of this name
abbrev pub JudgesCheck : Option Files → Paths → List ℕ → Result Checkable Ending → Type 0
JudgesCheck holds paths journal answer = (judged : Judged) × Judges holds paths judged × AfterRun holds journal judged answer

-- the files of a check are judged so, and in no other way
abbrev pub IsOnlyJudgement : Files → Paths → List ℕ → Result Checkable Ending → Type 0
IsOnlyJudgement files paths journal answer = JudgesCheck (Some files) paths journal answer
    × ((other : Result Checkable Ending) → JudgesCheck (Some files) paths journal other → other ≡ answer)

-- inputs that were read, and a log
abbrev pub checkable : Result (Accepted × LogView) Stopped → Result Checkable Stopped
checkable (Ok inputs) = Ok (record { accepted = inputs.0; notes = inputs.1.notes })
checkable (Err why) = Err why
