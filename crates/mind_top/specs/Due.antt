-- What is due: by the form of the words and the files that they name.
use Rattle.std.specs.Prelude.{◌≡◌, ◌⊎◌, ℕ, codes, List, [], ◌∷◌, ◌++◌, Option, None, Result, Ok, Err}
use Rattle.std.specs.Fmt.{decimal}
use Rattle.std.specs.FinMap as finite
use Rattle.mind_base.specs.Store.{Files, Rises}
use Rattle.mind_base.specs.declared.plans.RackPlan.{RackPlan}
use Rattle.rack_gen.specs.Generator.{generated_text}
use Rattle.mind_inputs.specs.Words.{Paths}
use Rattle.mind_inputs.specs.Refusal.{line_of}
use Rattle.mind_inputs.specs.Inputs.{Ending, Missing, Refused, Accepted, JudgesOne, Judges, JudgesMade, rack_seen_judged, seen_of, judge, judge_made}
use Rattle.mind_inputs.specs.Journals.{Checkable, JudgesCheck, IsOnlyJudgement}
use Rattle.mind_inputs.specs.Texts.{text_seen_judged, words_seen_judged}
use Rattle.mind_inputs.specs.declared.refusals.Refusal.{Refusal}
use Rattle.rv32_text.specs.Image.{image_words}
use Rattle.rv32_text.specs.Written.{disassembled}
use Rattle.tso_machine.specs.State.{start_state}
use Rattle.tso_machine.specs.Replay.{labels, Replayed, Whole, Stuck, replay}
use Rattle.report_text.specs.Report.{report_text}
use Rattle.mind_steps.specs.Run.{IsReportOf, IsStuckAt}
use Rattle.mind_top.specs.Headline.{setup_by, RunWrites, HasFinished, IsStopped}
use Rattle.mind_top.specs.Left.{Left, LeavesNothing}
use Rattle.mind_top.specs.Words.{Form, Run, Check, Make, Load, Asm, Dis, IsForm, IsCheckForm, IsNoForm, usage_line}
use Rattle.mind_top.specs.declared.words.Output.TheVariants.{Report}
use Rattle.mind_top.specs.declared.statuses.Status.{Status}
use Rattle.mind_top.specs.declared.statuses.Status.TheVariants as status

-- ---- what each form makes of its inputs

-- a journal whose labels replay whole is that of a run, and the text is its report
abbrev pub IsWhole : Checkable → List ℕ → Type 0
IsWhole inputs text = IsReportOf (setup_by inputs.accepted) inputs.notes text

-- any other is that of none, by its first label that is not enabled
abbrev pub IsStuck : Checkable → ℕ → Type 0
IsStuck inputs label = IsStuckAt (setup_by inputs.accepted) inputs.notes label

abbrev pub not_a_run_line : ℕ → List ℕ
not_a_run_line label = codes "not a run: label " ++ decimal label ++ 10 ∷ []

-- ---- by the form

-- the inputs of a form are accepted, and this is due to be left and written; only what runs leaves something
abbrev pub DoneBy : Option Files → Form → Left → List ℕ → Type 0
DoneBy holds (Run output paths) left text = (accepted : Accepted) × Judges holds paths (Ok accepted) × RunWrites output accepted left text
DoneBy holds (Check paths journal) left text = (inputs : Checkable) × JudgesCheck holds paths journal (Ok inputs) × IsWhole inputs text × LeavesNothing left
DoneBy holds (Make rack count seed) left text =
    (plan : RackPlan) × JudgesOne holds rack 65536 rack_seen_judged (Ok plan) × (text ≡ generated_text plan count seed) × LeavesNothing left
DoneBy holds (Load rack count seed) left text = (accepted : Accepted) × JudgesMade holds rack count seed (Ok accepted) × RunWrites Report accepted left text
DoneBy holds (Asm name) left text = JudgesOne holds name 4194304 text_seen_judged (Ok text) × LeavesNothing left
DoneBy holds (Dis name) left text =
    (image : List ℕ) × JudgesOne holds name 65536 words_seen_judged (Ok image) × (text ≡ disassembled (image_words image)) × LeavesNothing left

-- an input of a form ends the call
abbrev pub IsEndedBy : Option Files → Form → Ending → Type 0
IsEndedBy holds (Run output paths) ending = Judges holds paths (Err ending)
IsEndedBy holds (Check paths journal) ending = JudgesCheck holds paths journal (Err ending)
IsEndedBy holds (Make rack count seed) ending = JudgesOne holds rack 65536 rack_seen_judged (Err ending)
IsEndedBy holds (Load rack count seed) ending = JudgesMade holds rack count seed (Err ending)
IsEndedBy holds (Asm name) ending = JudgesOne holds name 4194304 text_seen_judged (Err ending)
IsEndedBy holds (Dis name) ending = JudgesOne holds name 65536 words_seen_judged (Err ending)

-- these accepted inputs of a form are run
abbrev pub IsRunBy : Option Files → Form → Accepted → Type 0
IsRunBy holds (Run output paths) accepted = Judges holds paths (Ok accepted)
IsRunBy holds (Check paths journal) accepted = ⊥
IsRunBy holds (Make rack count seed) accepted = ⊥
IsRunBy holds (Load rack count seed) accepted = JudgesMade holds rack count seed (Ok accepted)
IsRunBy holds (Asm name) accepted = ⊥
IsRunBy holds (Dis name) accepted = ⊥

-- The status and the text that are due where the one write does not fail, and what is left then.
abbrev pub Due : Option Files → List (List ℕ) → Left → Status → List ℕ → Type 0
Due holds words left status.Done text = (form : Form) × IsForm words form × DoneBy holds form left text
Due holds words left status.Usage text = IsNoForm words × LeavesNothing left × (text ≡ usage_line)
Due holds words left status.Malformed text =
    (form : Form) × IsForm words form × (refusal : Refusal) × IsEndedBy holds form (Refused refusal) × LeavesNothing left × (text ≡ line_of refusal)
Due holds words left status.NotARun text =
    (paths : Paths) × (journal : List ℕ) × IsCheckForm words paths journal × (inputs : Checkable) × JudgesCheck holds paths journal (Ok inputs)
    × (label : ℕ) × IsStuck inputs label × LeavesNothing left × (text ≡ not_a_run_line label)
Due holds words left status.ReadFault text = ⊥
Due holds words left status.WriteFault text = ⊥
Due holds words left status.NoMemory text = ⊥
Due holds words left status.Spent text = ⊥

-- Where memory ran out, no rack is left, and the log is empty, or that of the events that finished of a run.
abbrev pub LogStands : Option Files → List (List ℕ) → Left → Type 0
LogStands holds words left = (left.end ≡ None) × ((left.log ≡ [])
    ⊎ ((form : Form) × IsForm words form × (accepted : Accepted) × IsRunBy holds form accepted × HasFinished accepted left.log))

-- the inputs of a run are accepted, and it stopped
abbrev pub StopsRun : Option Files → List (List ℕ) → Left → Type 0
StopsRun holds words left = (form : Form) × IsForm words form × (accepted : Accepted) × IsRunBy holds form accepted × IsStopped accepted left

-- ---- the status that the files call for

abbrev pub status_of_ending : Ending → Status
status_of_ending Missing = status.ReadFault
status_of_ending (Refused refusal) = status.Malformed

-- of a run, or of the one input that is all that is read
abbrev pub status_of : {X : Type 0} → Result X Ending → Status
status_of (Ok x) = status.Done
status_of (Err ending) = status_of_ending ending

abbrev pub status_of_replay : Replayed → Status
status_of_replay (Whole state) = status.Done
status_of_replay (Stuck label state) = status.NotARun

abbrev pub status_of_check : Result Checkable Ending → Status
status_of_check (Err ending) = status_of_ending ending
status_of_check (Ok inputs) = status_of_replay (replay (setup_by inputs.accepted) (start_state (setup_by inputs.accepted)) (labels inputs.notes))

-- The files of a form call for this status. A check has one judgement of its files, and the status is that of it.
abbrev pub CallFor : Files → Form → Status → Type 0
CallFor files (Run output paths) due = due ≡ status_of (judge files paths)
CallFor files (Check paths journal) due = (answer : Result Checkable Ending) × IsOnlyJudgement files paths journal answer × (due ≡ status_of_check answer)
CallFor files (Make rack count seed) due = due ≡ status_of (rack_seen_judged (seen_of (finite.get files rack) 65536))
CallFor files (Load rack count seed) due = due ≡ status_of (judge_made files rack count seed)
CallFor files (Asm name) due = due ≡ status_of (text_seen_judged (seen_of (finite.get files name) 4194304))
CallFor files (Dis name) due = due ≡ status_of (words_seen_judged (seen_of (finite.get files name) 65536))

-- something is written with this status
abbrev pub IsSaid : Status → Type 0
IsSaid status.Done = Unit {0}
IsSaid status.Usage = Unit {0}
IsSaid status.Malformed = Unit {0}
IsSaid status.NotARun = Unit {0}
IsSaid status.ReadFault = ⊥
IsSaid status.WriteFault = ⊥
IsSaid status.NoMemory = ⊥
IsSaid status.Spent = ⊥

-- the status that is due is answered, or the write of what it says failed
abbrev pub IsAnswered : ℕ → ℕ → Status → Status → Type 0
IsAnswered failed failed' due result = (result ≡ due) ⊎ ((result ≡ status.WriteFault) × IsSaid due × Rises failed failed')

-- a run that the files call for may stop where a number would pass its last value; the other forms have no rack
abbrev pub MayStop : Form → Status → Type 0
MayStop (Run output paths) due = due ≡ status.Done
MayStop (Check paths journal) due = ⊥
MayStop (Make rack count seed) due = ⊥
MayStop (Load rack count seed) due = due ≡ status.Done
MayStop (Asm name) due = ⊥
MayStop (Dis name) due = ⊥

-- The files decide the status. It gives way to want of memory, in a run to a number at its last value, and to a
-- failed write where the files call for one.
abbrev pub Decides : Files → Form → ℕ → ℕ → Status → Type 0
Decides files form failed failed' result = (result ≡ status.NoMemory)
    ⊎ ((due : Status) × CallFor files form due × (IsAnswered failed failed' due result ⊎ ((result ≡ status.Spent) × MayStop form due)))

-- ---- what a check says

-- what its replay says
abbrev pub said_of_replay : Checkable → Replayed → Status × List ℕ
said_of_replay inputs (Whole state) = (status.Done, report_text (setup_by inputs.accepted).commands state.threads state.taken inputs.notes)
said_of_replay inputs (Stuck label state) = (status.NotARun, not_a_run_line label)

-- the status of a check and the text that is written, by the judgement of its files
abbrev pub said_of_check : Result Checkable Ending → Status × List ℕ
said_of_check (Err Missing) = (status.ReadFault, [])
said_of_check (Err (Refused refusal)) = (status.Malformed, line_of refusal)
said_of_check (Ok inputs) = said_of_replay inputs (replay (setup_by inputs.accepted) (start_state (setup_by inputs.accepted)) (labels inputs.notes))
