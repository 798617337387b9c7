-- What the line of counts counts.
use Rattle.std.specs.Prelude.{ℕ, Bool, true, false, codes, List, ◌++◌, count_by, Option, Some, None}
use Rattle.mind_base.specs.declared.notes.Note.{Note}
use Rattle.mind_base.specs.declared.notes.Note.TheVariants as note
use Rattle.report_text.specs.declared.kinds.Kind.{Kind}
use Rattle.report_text.specs.declared.kinds.Kind.TheVariants.{Event, Label, Take, Give, Down, Split, Merge}
use Rattle.report_text.specs.declared.counts.Counts.{Counts}
use Rattle.std.specs.Fmt.{decimal}
use Rattle.report_text.specs.Force.{peak}

-- The kind under which a note counts. Labels are what takes effect in the machine: executed instructions,
-- drained stores and taken commands.
abbrev pub note_kind : Note → Option Kind
note_kind (note.Event index) = Some Event
note_kind (note.Exec hart) = Some Label
note_kind (note.Drain hart) = Some Label
note_kind (note.Command index) = Some Label
note_kind (note.Take blade page writable) = Some Take
note_kind (note.Give blade page) = Some Give
note_kind (note.Down blade page) = Some Down
note_kind (note.Split range) = Some Split
note_kind (note.Merge range) = Some Merge
note_kind other = None

abbrev pub is_kind : Kind → Option Kind → Bool
is_kind Event (Some Event) = true
is_kind Label (Some Label) = true
is_kind Take (Some Take) = true
is_kind Give (Some Give) = true
is_kind Down (Some Down) = true
is_kind Split (Some Split) = true
is_kind Merge (Some Merge) = true
is_kind kind other = false

abbrev pub is_note_of : Kind → Note → Bool
is_note_of kind note = is_kind kind (note_kind note)

-- how many notes are of this kind
abbrev pub count_of : Kind → List Note → ℕ
count_of kind notes = count_by (is_note_of kind) notes

-- the counts of a log
abbrev pub counts_of : List Note → Counts
counts_of notes = record {
  events = count_of Event notes;
  labels = count_of Label notes;
  takes = count_of Take notes;
  gives = count_of Give notes;
  downs = count_of Down notes;
  peak = peak notes;
  splits = count_of Split notes;
  merges = count_of Merge notes;
}

-- a name and its number, a blank before each
abbrev pub named : List ℕ → ℕ → List ℕ
named name n = codes " " ++ name ++ codes " " ++ decimal n

-- the front of the line: what was run
abbrev pub counts_front : Counts → List ℕ
counts_front c = codes "counts" ++ named (codes "events") c.events ++ named (codes "labels") c.labels
    ++ named (codes "takes") c.takes ++ named (codes "gives") c.gives

-- the rest of it
abbrev pub counts_rest : Counts → List ℕ
counts_rest c = named (codes "downs") c.downs ++ named (codes "peak") c.peak ++ named (codes "splits") c.splits
    ++ named (codes "merges") c.merges ++ codes "\n"

abbrev pub counts_text : Counts → List ℕ
counts_text c = counts_front c ++ counts_rest c

abbrev pub counts_line : List Note → List ℕ
counts_line notes = counts_text (counts_of notes)
