-- How a call of the program ends: its status, what it wrote, and what it leaves.
use Rattle.std.specs.Prelude.{◌≡◌, ◌⊎◌, ◌≤◌, ℕ, List, Option}
use Rattle.mind_base.specs.Store.{Files, Rises, risen}
use Rattle.mind_base.specs.Sink.{Appends, AppendsFront}
use Rattle.mind_inputs.specs.Inputs.{Missing}
use Rattle.mind_inputs.specs.Loading.{MissTold, Stays}
use Rattle.mind_top.specs.Words.{Form, IsForm}
use Rattle.mind_top.specs.Due.{IsEndedBy, Due, LogStands, StopsRun}
use Rattle.mind_top.specs.Left.{Left, LeavesNothing}
use Rattle.mind_top.specs.declared.statuses.Status.{Status}
use Rattle.mind_top.specs.declared.statuses.Status.TheVariants as status

-- what stands counted of the outside: failed devices and missing names of the store, failed writes of the sink
pub record Counts : Type 0 where
  pub faults : ℕ
  pub missed : ℕ
  pub failed : ℕ

-- the counts of a store and a sink
abbrev pub counts : ℕ → ℕ → ℕ → Counts
counts faults missed failed = record { faults = faults; missed = missed; failed = failed }

-- what the store holds stays as it was, and no count falls
abbrev pub KeepsOutside : Option Files → Option Files → Counts → Counts → Type 0
KeepsOutside held held' before now = (held' ≡ held) × (before.faults ≤ now.faults) × (before.missed ≤ now.missed) × (before.failed ≤ now.failed)

-- the counts of the store stand as they were, but where a read failed and ended the call
abbrev pub StaysUnlessReadFault : ℕ → ℕ → ℕ → ℕ → Status → Type 0
StaysUnlessReadFault faults faults' missed missed' status.Done = Stays faults faults' missed missed'
StaysUnlessReadFault faults faults' missed missed' status.Usage = Stays faults faults' missed missed'
StaysUnlessReadFault faults faults' missed missed' status.Malformed = Stays faults faults' missed missed'
StaysUnlessReadFault faults faults' missed missed' status.ReadFault = Unit {0}
StaysUnlessReadFault faults faults' missed missed' status.WriteFault = Stays faults faults' missed missed'
StaysUnlessReadFault faults faults' missed missed' status.NoMemory = Stays faults faults' missed missed'
StaysUnlessReadFault faults faults' missed missed' status.NotARun = Stays faults faults' missed missed'
StaysUnlessReadFault faults faults' missed missed' status.Spent = Stays faults faults' missed missed'

-- where something is due to be written it was written to the sink once, else not at all
abbrev pub WritesOnce : ℕ → ℕ → Status → Type 0
WritesOnce writes writes' status.Done = writes' ≡ risen writes
WritesOnce writes writes' status.Usage = writes' ≡ risen writes
WritesOnce writes writes' status.Malformed = writes' ≡ risen writes
WritesOnce writes writes' status.ReadFault = writes' ≡ writes
WritesOnce writes writes' status.WriteFault = writes' ≡ risen writes
WritesOnce writes writes' status.NoMemory = writes' ≡ writes
WritesOnce writes writes' status.NotARun = writes' ≡ risen writes
WritesOnce writes writes' status.Spent = writes' ≡ writes

-- A call ends with its status: what is due was written; or the write failed, and a front of it stands
-- there; or a read failed, memory ran out, or a run stopped, and nothing was written. The last three come only with
-- words of a form.
abbrev pub EndsWith : Option Files → List (List ℕ) → Left → Counts → Counts → Option (List ℕ) → Option (List ℕ) → Status → Type 0
EndsWith holds words left before now old new status.Done = (text : List ℕ) × Due holds words left status.Done text × Appends old new text
EndsWith holds words left before now old new status.Usage = (text : List ℕ) × Due holds words left status.Usage text × Appends old new text
EndsWith holds words left before now old new status.Malformed = (text : List ℕ) × Due holds words left status.Malformed text × Appends old new text
EndsWith holds words left before now old new status.NotARun = (text : List ℕ) × Due holds words left status.NotARun text × Appends old new text
EndsWith holds words left before now old new status.ReadFault = (form : Form) × IsForm words form
    × (Rises before.faults now.faults ⊎ Rises before.missed now.missed) × MissTold holds (IsEndedBy holds form Missing) before.faults now.faults
    × LeavesNothing left × (new ≡ old)
EndsWith holds words left before now old new status.WriteFault = Rises before.failed now.failed
    × (s : Status) × (text : List ℕ) × Due holds words left s text × AppendsFront old new text
EndsWith holds words left before now old new status.NoMemory = ((form : Form) × IsForm words form) × LogStands holds words left × (new ≡ old)
EndsWith holds words left before now old new status.Spent = StopsRun holds words left × (new ≡ old)
