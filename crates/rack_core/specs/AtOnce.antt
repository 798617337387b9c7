-- What happens at once: in the very event that asks for it, with no message of the switch.
use Rattle.std.specs.Prelude.{◌≡◌, ◌⊎◌, ℕ, Bool, true, false, not, ◌||◌, List, [], ◌∷◌, slice_get, Option, Some, None, is_some, option_map, option_and_then, unwrap_or}
use Rattle.mind_base.specs.Page.{PageView}
use Rattle.mind_base.specs.Pending.{PendingView}
use Rattle.mind_base.specs.Place.{place_of, page_at}
use Rattle.mind_base.specs.declared.ends.End.{End}
use Rattle.mind_base.specs.declared.ends.End.TheVariants.{Running, Exit, Fault}
use Rattle.mind_base.specs.declared.images.Image.{Image}
use Rattle.mind_base.specs.declared.plans.ThreadPlan.{ThreadPlan}
use Rattle.hart_effect.specs.Access.{AccessView, access_of, is_aligned}
use Rattle.hart_effect.specs.Deed.{found}
use Rattle.hart_effect.specs.Thread.{Thread}
use Rattle.hart_effect.specs.declared.accesses.AccessKind.{AccessKind}
use Rattle.hart_effect.specs.declared.accesses.AccessKind.TheVariants.{Reads, WritesLater, WritesAtOnce}
use Rattle.hart_effect.specs.declared.finds.Found.{Found}
use Rattle.hart_effect.specs.declared.finds.Found.TheVariants.{Outside, Unknown, Asks}
use Rattle.coherence.specs.Held.{Holdings}
use Rattle.tso_machine.specs.Scheduled.{step_label}
use Rattle.tso_machine.specs.State.{Setup, State}
use Rattle.tso_machine.specs.declared.labels.Label.{Label}
use Rattle.tso_machine.specs.declared.labels.Label.TheVariants as label
use Rattle.rack_core.specs.Rack.{RackView}
use Rattle.rack_core.specs.Seen.{frame_at}

-- ---- the access that a thread makes next

abbrev pub access_in : Found → ℕ → Option AccessView
access_in Outside domain = None
access_in (Unknown word) domain = None
access_in (Asks asked) domain = access_of asked domain

abbrev pub access_at : End → Image → Thread → ℕ → Option AccessView
access_at (Running pc) image thread domain = access_in (found image thread.regs pc) domain
access_at (Exit value) image thread domain = None
access_at (Fault kind value pc) image thread domain = None

-- that of the instruction at its pc, if it makes one
abbrev pub next_access : Setup → List Thread → ℕ → Option AccessView
next_access setup threads h =
    option_and_then (λ plan. option_and_then (λ image. option_and_then (λ thread.
    access_at thread.end image thread plan.domain)
    (slice_get threads h)) (slice_get setup.images plan.image)) (slice_get setup.plan.threads h)

-- ---- pages that are held

-- a page that is held, or not, is held as an access needs it: to write where it writes at once (SC and AMO), in any way
-- where it reads (loads and LR) or writes later (stores)
abbrev pub is_held_as : AccessKind → Option Bool → Bool
is_held_as Reads held = is_some held
is_held_as WritesLater held = is_some held
is_held_as WritesAtOnce held = unwrap_or held false

-- it is no access; or it is denied, at no multiple of its size; or its page is held as it needs it
abbrev pub is_at_hand : (PageView → Option Bool) → Option AccessView → Bool
is_at_hand held None = true
is_at_hand held (Some access) = not (is_aligned access) || is_held_as access.kind (held (page_at (place_of access.domain access.address)))

-- these holdings are what the rack's blades hold
abbrev pub AreHeldIn : RackView → Holdings → Type 0
AreHeldIn rack held = (blade : ℕ) (page : PageView) → held blade page ≡ option_map (λ frame. frame.writable) (frame_at rack.blades blade page)

-- ---- what a step and a drain do at once

-- A step of thread h executes its instruction in the machine's state, and what the instruction needs is at hand.
pub record ExecutesAtOnce (setup : Setup) (held : Holdings) (m : State) (h : ℕ) : Type 0 where
  pub plan : ThreadPlan
  pub planned : slice_get setup.plan.threads h ≡ Some plan
  pub step : step_label setup m.threads h ≡ Some (label.Exec h)
  pub at_hand : is_at_hand (held plan.blade) (next_access setup m.threads h) ≡ true

-- Thread h buffers stores, and this is the oldest one.
pub record OldestStore (threads : List ThreadPlan) (m : State) (h : ℕ) : Type 0 where
  pub plan : ThreadPlan
  pub thread : Thread
  pub oldest : PendingView
  pub newer : List PendingView
  pub planned : slice_get threads h ≡ Some plan
  pub there : slice_get m.threads h ≡ Some thread
  pub buffer : thread.buffer ≡ oldest ∷ newer

-- Thread h buffers stores, and its blade holds the page of the oldest one to write.
pub record HoldsOldest (setup : Setup) (held : Holdings) (m : State) (h : ℕ) : Type 0 where
  pub store : OldestStore setup.plan.threads m h
  pub open store use *
  pub to_write : held plan.blade (page_at (place_of plan.domain oldest.address)) ≡ Some true

-- no label, or one of thread h
abbrev pub IsAtMostOne : ℕ → List Label → Type 0
IsAtMostOne h found = (found ≡ []) ⊎ ((found ≡ label.Exec h ∷ []) ⊎ (found ≡ label.Drain h ∷ []))
