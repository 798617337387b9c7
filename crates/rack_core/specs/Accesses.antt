-- Wherever a log notes that a thread performs an access, the thread's blade holds the page then.
use Rattle.std.specs.Prelude.{◌≡◌, ℕ, Bool, true, false, List, [], ◌∷◌, slice_get, Some, option_and_then, unwrap_or}
use Rattle.mind_base.specs.Pending.{PendingView}
use Rattle.mind_base.specs.Place.{place_of, page_at}
use Rattle.mind_base.specs.declared.ends.End.{End}
use Rattle.mind_base.specs.declared.ends.End.TheVariants.{Running, Exit, Fault}
use Rattle.mind_base.specs.declared.notes.Note.{Note}
use Rattle.mind_base.specs.declared.notes.Note.TheVariants as note
use Rattle.mind_base.specs.declared.plans.ThreadPlan.{ThreadPlan}
use Rattle.hart_effect.specs.Access.{AccessView}
use Rattle.hart_effect.specs.Thread.{Thread}
use Rattle.coherence.specs.Held.{Holdings, held_after}
use Rattle.tso_machine.specs.Replay.{label_of}
use Rattle.tso_machine.specs.State.{Setup, State}
use Rattle.tso_machine.specs.Step.{after}
use Rattle.tso_machine.specs.declared.labels.Label.TheVariants as label
use Rattle.rack_core.specs.AtOnce.{is_held_as, next_access}

-- ---- at one point

abbrev pub is_fault : End → Bool
is_fault (Running pc) = false
is_fault (Exit value) = false
is_fault (Fault kind value pc) = true

-- thread h executes its instruction in the machine's state, and does not end by a fault
pub record IsPerformed (setup : Setup) (m : State) (h : ℕ) : Type 0 where
  pub next : State
  pub thread : Thread
  pub enabled : after setup m (label.Exec h) ≡ Some next
  pub there : slice_get next.threads h ≡ Some thread
  pub fine : is_fault thread.end ≡ false

-- where thread h performs an access, its blade holds the page as the access needs it
abbrev pub ExecHolds : Setup → State → Holdings → ℕ → Type 0
ExecHolds setup m held h = (plan : ThreadPlan) (access : AccessView) → slice_get setup.plan.threads h ≡ Some plan
    → next_access setup m.threads h ≡ Some access → IsPerformed setup m h
    → is_held_as access.kind (held plan.blade (page_at (place_of access.domain access.address))) ≡ true

-- where the oldest store of thread h takes effect, its blade holds the page to write
abbrev pub DrainHolds : Setup → State → Holdings → ℕ → Type 0
DrainHolds setup m held h = (plan : ThreadPlan) (thread : Thread) (oldest : PendingView) (newer : List PendingView) → slice_get setup.plan.threads h ≡ Some plan
    → slice_get m.threads h ≡ Some thread → thread.buffer ≡ oldest ∷ newer → held plan.blade (page_at (place_of plan.domain oldest.address)) ≡ Some true

-- what a note wants of the machine's state and of what is held
abbrev pub HoldsAt : Setup → State → Holdings → Note → Type 0
HoldsAt setup m held (note.Exec h) = ExecHolds setup m held h
HoldsAt setup m held (note.Drain h) = DrainHolds setup m held h
HoldsAt setup m held n = Unit {0}

-- ---- at every point

-- where the machine stands after a note; what is no label, or is not enabled, leads nowhere
abbrev pub state_after : Setup → State → Note → State
state_after setup m n = unwrap_or (option_and_then (after setup m) (label_of n)) m

-- from a point on at which the machine is in this state and this is held
abbrev pub AreAccessesHeld : Setup → State → Holdings → List Note → Type 0
AreAccessesHeld setup m held [] = Unit {0}
AreAccessesHeld setup m held (n ∷ notes) = HoldsAt setup m held n × AreAccessesHeld setup (state_after setup m n) (held_after held n) notes
