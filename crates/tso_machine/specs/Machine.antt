-- What a machine shows of itself, and which states it stands for.
use Rattle.std.specs.Prelude.{◌≡◌, ℕ, Bool, true, false, List, ◌++◌, slice_set, Option, Some, None}
use Rattle.flat_memory.specs.FlatMemory.{MemoryView, byte_in}
use Rattle.mind_base.specs.Permission.{permission_of}
use Rattle.protect_table.specs.Protect.{ProtectView, permission_at}
use Rattle.hart_effect.specs.Thread.{Thread}
use Rattle.tso_machine.specs.State.{Setup, Taken, State}
use Rattle.mind_base.specs.Place.{place_of, granule_at}
use Rattle.tso_machine.specs.Memory.{byte_of}
use Rattle.hart_effect.specs.Access.{Around}
use Rattle.hart_effect.specs.Deed.{Deed, Alone, Storing}
use Rattle.tso_machine.specs.Storing.{stored_by}
use Rattle.tso_machine.specs.Step.{threads_off, after}
use Rattle.tso_machine.specs.Replay.{Replayed, Whole, Stuck, replay}
use Rattle.tso_machine.specs.declared.labels.Label.{Label}
use Rattle.tso_machine.specs.declared.labels.Replay.{Replay}
use Rattle.tso_machine.specs.declared.labels.Replay.TheVariants as answer

pub record MachineView : Type 0 where
  pub setup : Setup
  pub threads : List Thread
  pub memory : MemoryView
  pub perms : ProtectView
  pub taken : List Taken

-- The machine's threads are the state's, and so are its bytes, permissions and taken commands. It need
-- not keep the lists of writes and of permissions.
pub record StandsFor (machine : MachineView) (state : State) : Type 0 where
  pub threads : machine.threads ≡ state.threads
  pub bytes : byte_in machine.memory ≡ byte_of state.writes
  pub perms : permission_at machine.perms ≡ permission_of state.perms
  pub taken : machine.taken ≡ state.taken

-- a step answers true and stands for the state that the label leads to, or false where it is not enabled
abbrev pub StepLeadsTo : Bool → MachineView → MachineView → Option State → Type 0
StepLeadsTo enabled old new None = (enabled ≡ false) × (new ≡ old)
StepLeadsTo enabled old new (Some state) = (enabled ≡ true) × StandsFor new state

abbrev pub StepLeads : Bool → Label → MachineView → MachineView → Type 0
StepLeads enabled label old new = (state : State) → StandsFor old state → StepLeadsTo enabled old new (after old.setup state label)

-- a replay answers whole and stands for the state at the end, or names the first label that is not
-- enabled and stands for the state before it
abbrev pub ReplaysTo : Replay → MachineView → Replayed → Type 0
ReplaysTo answer.Whole new (Whole state) = StandsFor new state
ReplaysTo answer.Whole new (Stuck label state) = ⊥
ReplaysTo (answer.Stuck n) new (Whole state) = ⊥
ReplaysTo (answer.Stuck n) new (Stuck label state) = (n ≡ label) × StandsFor new state

abbrev pub Replays : Replay → List Label → MachineView → MachineView → Type 0
Replays answer labels old new = (state : State) → StandsFor old state → ReplaysTo answer new (replay old.setup state labels)

-- the labels replay whole from a state to one that the machine stands for
abbrev pub MachineReaches : Setup → State → List Label → MachineView → Type 0
MachineReaches setup start labels machine = (state : State) × (replay setup start labels ≡ Whole state) × StandsFor machine state

-- the machine stands for the state after some front of the labels, from every state that it stood for before
abbrev pub StandsInside : List Label → MachineView → MachineView → Type 0
StandsInside labels old new = (state : State) → StandsFor old state → (front : List Label) × (rest : List Label)
    × (labels ≡ front ++ rest) × MachineReaches old.setup state front new

-- ---- what the code does of a deed

-- what a thread of the code finds around it
abbrev pub around_at : ℕ → ℕ → MemoryView → ProtectView → Around
around_at hart domain memory perms =
    record { hart = hart; domain = domain; byte = byte_in memory; perm = permission_at perms }

-- the threads and the memory after a deed of thread hart, of a domain; where there is none both are as they were
abbrev pub CarriesOut : Bool → ℕ → ℕ → List Thread → MemoryView → List Thread → MemoryView → Option Deed → Type 0
CarriesOut done hart domain old m new m' None = (done ≡ false) × (new ≡ old) × (m' ≡ m)
CarriesOut done hart domain old m new m' (Some (Alone thread)) = (done ≡ true) × (new ≡ slice_set old hart thread) × (m' ≡ m)
CarriesOut done hart domain old m new m' (Some (Storing thread store)) = (done ≡ true)
    × (new ≡ threads_off (granule_at (place_of domain store.address)) (slice_set old hart thread))
    × (byte_in m' ≡ stored_by (byte_in m) domain store)
