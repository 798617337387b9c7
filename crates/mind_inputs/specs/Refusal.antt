-- The lines that say why an input is refused.
use Rattle.std.specs.Prelude.{ℕ, codes, List, [], ◌∷◌, ◌++◌, length, ◌==◌, if◌then◌else◌}
use Rattle.std.specs.Fmt.{decimal}
use Rattle.rack_file.specs.declared.refusals.RackFault.{RackFault}
use Rattle.rack_file.specs.declared.refusals.RackFault.TheVariants as rack
use Rattle.schedule_text.specs.declared.faults.LineFault.{LineFault}
use Rattle.schedule_text.specs.declared.faults.LineFault.TheVariants as schedule
use Rattle.rv32_text.specs.declared.faults.TextFault.{TextFault}
use Rattle.rv32_text.specs.declared.faults.TextFault.TheVariants as text
use Rattle.journal_text.specs.declared.refusals.JournalFault.{JournalFault}
use Rattle.journal_text.specs.declared.refusals.JournalFault.TheVariants.{Head, Line}
use Rattle.mind_inputs.specs.declared.refusals.Refusal.{Refusal}
use Rattle.mind_inputs.specs.declared.refusals.Refusal.TheVariants.{RackRefused, RackLong, ImageLength, ImageEnd, ImageLong, ScheduleRefused, ScheduleLong, ScheduleEarly, JournalRefused, JournalLong, TextRefused, TextLong}

abbrev pub rack_word : RackFault → List ℕ
rack_word rack.Toml = codes "toml"
rack_word rack.Missing = codes "missing"
rack_word rack.Kind = codes "kind"
rack_word rack.Limit = codes "limit"
rack_word rack.Unknown = codes "unknown"
rack_word rack.Overlap = codes "overlap"
rack_word rack.Unplaced = codes "unplaced"
rack_word rack.Slots = codes "slots"

abbrev pub schedule_word : LineFault → List ℕ
schedule_word schedule.Text = codes "text"
schedule_word schedule.Word = codes "word"
schedule_word schedule.Count = codes "count"
schedule_word schedule.Number = codes "number"
schedule_word schedule.Range = codes "range"
schedule_word schedule.Wire = codes "wire"
schedule_word schedule.Perm = codes "perm"
schedule_word schedule.Events = codes "events"

-- the path in a rack file, where there is one
abbrev pub path_text : List ℕ → List ℕ
path_text path = if length path == 0 then [] else codes " " ++ path

abbrev pub rack_text : RackFault → List ℕ → List ℕ
rack_text what path = codes "refused rack " ++ rack_word what ++ path_text path

abbrev pub numbered_text : List ℕ → List ℕ → ℕ → List ℕ
numbered_text head word number = head ++ word ++ codes " " ++ decimal number

abbrev pub image_text : List ℕ → ℕ → List ℕ
image_text word number = numbered_text (codes "refused image ") word number

abbrev pub schedule_text : ℕ → LineFault → List ℕ
schedule_text line what = numbered_text (codes "refused schedule ") (schedule_word what) line

-- a first line that is another has no number
abbrev pub journal_text : ℕ → JournalFault → List ℕ
journal_text line Head = codes "refused journal head"
journal_text line Line = codes "refused journal line " ++ decimal line

abbrev pub text_word : TextFault → List ℕ
text_word text.Text = codes "text"
text_word text.Label = codes "label"
text_word text.Word = codes "word"
text_word text.Operand = codes "operand"
text_word text.Target = codes "target"
text_word text.Range = codes "range"
text_word text.Words = codes "words"
text_word text.Empty = codes "empty"

-- the number of a line, but none where it is wrong with the whole text
abbrev pub line_text : ℕ → List ℕ
line_text line = if line == 0 then [] else codes " " ++ decimal line

abbrev pub instructions_text : ℕ → TextFault → List ℕ
instructions_text line what = codes "refused text " ++ text_word what ++ line_text line

abbrev pub reason_of : Refusal → List ℕ
reason_of (RackRefused what path) = rack_text what path
reason_of RackLong = codes "refused rack long"
reason_of (ImageLength number) = image_text (codes "length") number
reason_of (ImageEnd number) = image_text (codes "end") number
reason_of (ImageLong number) = image_text (codes "long") number
reason_of (ScheduleRefused line what) = schedule_text line what
reason_of ScheduleLong = codes "refused schedule long"
reason_of ScheduleEarly = codes "refused schedule early"
reason_of (JournalRefused line what) = journal_text line what
reason_of JournalLong = codes "refused journal long"
reason_of (TextRefused line what) = instructions_text line what
reason_of TextLong = codes "refused text long"

abbrev pub line_of : Refusal → List ℕ
line_of refusal = reason_of refusal ++ 10 ∷ []
