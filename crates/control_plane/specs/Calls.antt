-- Whole runs of a control: calls in any order.
use Rattle.std.specs.Prelude.{◌≡◌, ℕ, ◌+◌, ◌==◌, ◌&&◌, List, [], ◌∷◌, ◌++◌, IsTrue, if◌then◌else◌, Option, Some, None}
use Rattle.mind_base.specs.declared.commands.Command.{Command}
use Rattle.control_plane.specs.Control.{ControlView, PhaseWaitsFor, IsApplying, no_commands, can_begin, after_ask, after_begin, after_closed, after_finish}
use Rattle.control_plane.specs.declared.phases.Asked.{Asked}
use Rattle.control_plane.specs.declared.phases.Phase.{Phase}
use Rattle.control_plane.specs.declared.phases.Phase.TheVariants.{Free, Closing, Applying}

-- a call that changed something: an `ask` that was answered Ok, a `begin` that was answered true
pub data ControlCall : Type 0 where
  Ask : (command : Asked) → ControlCall
  Begin : ControlCall
  Answer : (number blade : ℕ) → ControlCall
  Finish : ControlCall

-- the control is this one after the call
abbrev pub ControlStep : ControlView → ControlCall → ControlView → Type 0
ControlStep old (Ask command) new = new ≡ after_ask old command
ControlStep old Begin new = IsTrue (can_begin old) × (new ≡ after_begin old)
ControlStep old (Answer number blade) new = PhaseWaitsFor number blade old.phase × (new ≡ after_closed old blade)
ControlStep old Finish new = IsApplying old.phase × (new ≡ after_finish old)

-- the control of a rack with these blades may be this one after the calls, of which the list has the latest first
abbrev pub ControlRun : ℕ → List ControlCall → ControlView → Type 0
ControlRun blades [] control = control ≡ no_commands blades
ControlRun blades (call ∷ calls) control = (before : ControlView) × ControlRun blades calls before × ControlStep before call control

-- the commands that were asked for, in order
abbrev pub asked_by : List ControlCall → List Asked
asked_by [] = []
asked_by (Ask command ∷ calls) = asked_by calls ++ command ∷ []
asked_by (call ∷ calls) = asked_by calls

-- how many commands have ended
abbrev pub ended_by : List ControlCall → ℕ
ended_by [] = 0
ended_by (Finish ∷ calls) = ended_by calls + 1
ended_by (call ∷ calls) = ended_by calls

-- how often a blade has answered to a number
abbrev pub answer_count : ℕ → ℕ → List ControlCall → ℕ
answer_count number blade [] = 0
answer_count number blade (Answer n b ∷ calls) = if n == number && b == blade then answer_count number blade calls + 1 else answer_count number blade calls
answer_count number blade (call ∷ calls) = answer_count number blade calls

-- a command with its index, where there is one
abbrev pub with_index : ℕ → Option Command → List Asked
with_index index None = []
with_index index (Some command) = record { index = index; command = command } ∷ []

-- the command under way as it was asked for, if one is
abbrev pub command_under_way : Phase → Option Command → List Asked
command_under_way Free current = []
command_under_way (Closing index number waiting) current = with_index index current
command_under_way (Applying index number) current = with_index index current
