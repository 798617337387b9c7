-- What a run of accepted inputs leaves, and what is written of it.
use Rattle.std.specs.Prelude.{◌≡◌, ◌≤◌, ◌⊎◌, ℕ, List, [], length, Some}
use Rattle.mind_base.specs.declared.notes.Note.{Note}
use Rattle.journal_text.specs.Journal.{journal_text_of}
use Rattle.mind_inputs.specs.Inputs.{Accepted}
use Rattle.tso_machine.specs.State.{Setup, State, start_state}
use Rattle.tso_machine.specs.Replay.{labels, Whole, replay}
use Rattle.report_text.specs.Force.{peak}
use Rattle.report_text.specs.Report.{report_text}
use Rattle.mind_steps.specs.Run.{setup_of, events, below, IsReportOf}
use Rattle.rack_core.specs.Calls.{HasSpentNumber}
use Rattle.rack_core.specs.Rack.{RackView}
use Rattle.rack_core.specs.Start.{IsStart}
use Rattle.rack_settle.specs.Ran.{HasStopped}
use Rattle.mind_top.specs.Left.{Left}
use Rattle.mind_top.specs.Ran.{RanThrough}
use Rattle.mind_top.specs.declared.words.Output.{Output}
use Rattle.mind_top.specs.declared.words.Output.TheVariants.{Report, Journal}

-- the machine of accepted inputs
abbrev pub setup_by : Accepted → Setup
setup_by accepted = setup_of accepted.plan accepted.images

-- The log is that of a run of the machine: its labels replay whole from the machine's start, to this state, and its
-- events are all events of the schedule, in order from 0. At no point of it are more entries in force than the directory
-- has slots. The rack at the end of the events is left, and with that log it ran through them.
pub record IsRunOf (accepted : Accepted) (left : Left) (state : State) : Type 0 where
  pub run : replay (setup_by accepted) (start_state (setup_by accepted)) (labels left.log) ≡ Whole state
  pub events : events left.log ≡ below (length accepted.events)
  pub slots : peak left.log ≤ accepted.plan.slots
  pub rack : RackView
  pub end : left.end ≡ Some rack
  pub ran : RanThrough accepted left.log rack

-- the report is that of a run of the machine: of the state at its end, and of its log
pub record Headline (accepted : Accepted) (left : Left) (text : List ℕ) : Type 0 where
  pub state : State
  pub run : IsRunOf accepted left state
  pub report : text ≡ report_text (setup_by accepted).commands state.threads state.taken left.log

-- the journal is that of the log of a run of the machine
pub record JournalHeadline (accepted : Accepted) (left : Left) (text : List ℕ) : Type 0 where
  pub state : State
  pub run : IsRunOf accepted left state
  pub journal : text ≡ journal_text_of left.log

-- a run leaves its log and its rack, and writes its report or the text of the log
abbrev pub RunWrites : Output → Accepted → Left → List ℕ → Type 0
RunWrites Report accepted left text = Headline accepted left text
RunWrites Journal accepted left text = JournalHeadline accepted left text

-- the text of a log that is asked for
abbrev pub IsTextOf : Output → Accepted → List Note → List ℕ → Type 0
IsTextOf Report accepted log text = IsReportOf (setup_by accepted) log text
IsTextOf Journal accepted log text = text ≡ journal_text_of log

-- A rack of the accepted plan stopped in one of the events, which left this one. The log is that of the rack that ran
-- through the events before it, from its start, and behind it stands at most the number of the event that stopped.
pub record StopsIn (accepted : Accepted) (rack : RackView) (log : List Note) : Type 0 where
  pub first : RackView
  pub start : IsStart accepted.plan first
  pub stopped : HasStopped accepted.images accepted.events first rack log

-- the log is that of the events that finished: of none, of all, or of those before one that stopped
abbrev pub HasFinished : Accepted → List Note → Type 0
HasFinished accepted log = (log ≡ []) ⊎ ((rack : RackView) × (RanThrough accepted log rack ⊎ StopsIn accepted rack log))

-- a run stopped in an event since a number of its rack has its last value, and the rack is left
pub record IsStopped (accepted : Accepted) (left : Left) : Type 0 where
  pub rack : RackView
  pub end : left.end ≡ Some rack
  pub stops : StopsIn accepted rack left.log
  pub spent : HasSpentNumber rack
