-- What is said of the log of a run: its events, and the run of the machine that its labels are.
use Rattle.std.specs.Prelude.{◌≡◌, ℕ, zero, suc, List, [], ◌∷◌, ◌++◌, Option, Some, None}
use Rattle.std.specs.List.{filter_map}
use Rattle.mind_base.specs.declared.images.Image.{Image}
use Rattle.mind_base.specs.declared.notes.Note.{Note}
use Rattle.mind_base.specs.declared.notes.Note.TheVariants as note
use Rattle.mind_base.specs.declared.plans.RackPlan.{RackPlan}
use Rattle.tso_machine.specs.State.{Setup, State, start_state}
use Rattle.tso_machine.specs.Replay.{labels, Whole, Stuck, replay}
use Rattle.report_text.specs.Report.{report_text}
use Rattle.mind_steps.specs.declared.checking.Checked.{Checked}
use Rattle.mind_steps.specs.declared.checking.Checked.TheVariants.{Report, NotARun}

-- the machine of a plan and its images, without commands
abbrev pub setup_of : RackPlan → List Image → Setup
setup_of plan images = record { plan = plan; images = images; commands = [] }

-- ---- the events of a log

-- the number of an event note
abbrev pub event_number : Note → Option ℕ
event_number (note.Event index) = Some index
event_number other = None

-- the events of a log, in order
abbrev pub events : List Note → List ℕ
events notes = filter_map event_number notes

-- the numbers from 0 up to below n
abbrev pub below : ℕ → List ℕ
below zero = []
below (suc n) = below n ++ n ∷ []

-- ---- its labels

-- the labels of the notes replay whole from the start
abbrev pub IsWholeRun : Setup → List Note → Type 0
IsWholeRun setup notes = (state : State) × (replay setup (start_state setup) (labels notes) ≡ Whole state)

-- the labels of the notes replay whole from the start, and the report is of the state there and of the notes
abbrev pub IsReportOf : Setup → List Note → List ℕ → Type 0
IsReportOf setup notes text =
    (state : State) × (replay setup (start_state setup) (labels notes) ≡ Whole state) × (text ≡ report_text setup.commands state.threads state.taken notes)

-- the first label that is not enabled has this number, counted from 0
abbrev pub IsStuckAt : Setup → List Note → ℕ → Type 0
IsStuckAt setup notes n = (state : State) × (replay setup (start_state setup) (labels notes) ≡ Stuck n state)

-- what the notes of a journal were checked to be: a run with its report, or none
abbrev pub Checks : Setup → List Note → Checked → Type 0
Checks setup notes (Report text) = IsReportOf setup notes text.items
Checks setup notes (NotARun n) = IsStuckAt setup notes n
