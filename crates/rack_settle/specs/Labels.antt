-- The labels that a rack owes for what waits in it, and those that events ask for.
use Rattle.std.specs.Prelude.{◌≡◌, ℕ, List, [], ◌∷◌, ◌++◌, map, slice_get, Option, Some, None, option_map}
use Rattle.std.specs.List.{AllByRecursion, flat_map}
use Rattle.std.specs.Option.{option_to_list}
use Rattle.mind_base.specs.declared.events.Event.{Event}
use Rattle.mind_base.specs.declared.events.Event.TheVariants as event
use Rattle.mind_base.specs.declared.images.Image.{Image}
use Rattle.mind_base.specs.declared.notes.Note.{Note}
use Rattle.mind_base.specs.declared.plans.RackPlan.{RackPlan}
use Rattle.mind_base.specs.declared.plans.ThreadPlan.{ThreadPlan}
use Rattle.hart_effect.specs.Thread.{Thread}
use Rattle.compute_blade.specs.Blade.{BladeView}
use Rattle.compute_blade.specs.declared.kept.Asked.{Asked}
use Rattle.compute_blade.specs.declared.kept.Waits.{Waits}
use Rattle.compute_blade.specs.declared.kept.Waits.TheVariants.{Step, Drain}
use Rattle.tso_machine.specs.Replay.{Replayed, Whole, Stuck, replay}
use Rattle.tso_machine.specs.Scheduled.{step_label, drain_label}
use Rattle.tso_machine.specs.State.{Setup, start_state}
use Rattle.tso_machine.specs.declared.labels.Label.{Label}
use Rattle.tso_machine.specs.declared.labels.Label.TheVariants as label
use Rattle.rack_core.specs.Rack.{RackView}
use Rattle.rack_core.specs.Safe.{AreOfRack, Reaches}
use Rattle.rack_core.specs.StandRuns.{AreCounted}

-- ---- what waits

-- a step that waits is still to be executed, and a drain to take effect
abbrev pub waiting_label : Waits → ℕ → Label
waiting_label Step hart = label.Exec hart
waiting_label Drain hart = label.Drain hart

abbrev pub owed_for : Asked → Label
owed_for asked = waiting_label asked.waits asked.hart

abbrev pub owed_by : BladeView → List Label
owed_by blade = map owed_for blade.requests

-- the labels that a rack owes: for each request of each blade that of what waits for it
abbrev pub owed : RackView → List Label
owed rack = flat_map owed_by rack.blades

-- nothing waits at the blade of the thread
abbrev pub OwesNothingFor : ℕ → RackView → Type 0
OwesNothingFor hart rack = (thread : ThreadPlan) (blade : BladeView) → slice_get rack.plan.threads hart ≡ Some thread → slice_get rack.blades thread.blade ≡ Some blade → owed_by blade ≡ []

-- ---- what events ask for

-- The labels that an event asks for where the machine has these threads: that of the hart's step, or of its drain.
abbrev pub asked_labels : Setup → List Thread → Event → List Label
asked_labels setup threads (event.Step hart) = option_to_list (step_label setup threads hart)
asked_labels setup threads (event.Drain hart) = option_to_list (drain_label threads hart)
asked_labels setup threads (event.Evict blade page) = []
asked_labels setup threads (event.Deliver link side k) = []
asked_labels setup threads (event.Lose link side k) = []
asked_labels setup threads (event.Repeat link side k) = []
asked_labels setup threads (event.Resend link) = []
asked_labels setup threads event.Epoch = []
asked_labels setup threads (event.Ask command) = []
asked_labels setup threads event.Settle = []

-- those that events ask for, each of the same threads
abbrev pub all_asked : Setup → List Thread → List Event → List Label
all_asked setup threads events = flat_map (asked_labels setup threads) events

-- an event in which no hart is to step or to drain
abbrev pub AsksNothing : Event → Type 0
AsksNothing (event.Step hart) = ⊥
AsksNothing (event.Drain hart) = ⊥
AsksNothing (event.Evict blade page) = Unit {0}
AsksNothing (event.Deliver link side k) = Unit {0}
AsksNothing (event.Lose link side k) = Unit {0}
AsksNothing (event.Repeat link side k) = Unit {0}
AsksNothing (event.Resend link) = Unit {0}
AsksNothing event.Epoch = Unit {0}
AsksNothing (event.Ask command) = Unit {0}
AsksNothing event.Settle = Unit {0}

abbrev pub AskNothing : List Event → Type 0
AskNothing events = AllByRecursion AsksNothing events

-- the blade of the thread that is to step or to drain in the event
abbrev pub asked_blade : RackPlan → Event → Option ℕ
asked_blade plan (event.Step hart) = option_map (λ thread. thread.blade) (slice_get plan.threads hart)
asked_blade plan (event.Drain hart) = option_map (λ thread. thread.blade) (slice_get plan.threads hart)
asked_blade plan event = None

-- of the threads of each blade at most one is to step or to drain, once
abbrev pub IsOneEach : RackPlan → List Event → Type 0
IsOneEach plan [] = Unit {0}
IsOneEach plan (event ∷ events) =
    ((blade : ℕ) → asked_blade plan event ≡ Some blade → AllByRecursion (λ other. asked_blade plan other ≡ Some blade → ⊥) events) × IsOneEach plan events

-- ---- events that are settled one by one

-- The event leads to a rack, and further events that ask for nothing lead on to one that owes nothing. Of no hart more
-- stores took effect than have tags.
pub record LeadsAndSettles (images : List Image) (first : Event) (old new : RackView) (noted : List Note) : Type 0 where
  pub turns : List Event
  pub fits : AreOfRack turns
  pub asks : AskNothing turns
  pub reaches : Reaches images (first ∷ turns) old new noted
  pub settled : owed new ≡ []
  pub counted : AreCounted new

-- so does each of these, one after another
abbrev pub SettlesEach : List Image → List Event → RackView → RackView → List Note → Type 0
SettlesEach images [] first last noted = (last ≡ first) × (noted ≡ [])
SettlesEach images (event ∷ events) first last noted = (mid : RackView) × (now later : List Note)
    × LeadsAndSettles images event first mid now × SettlesEach images events mid last later × (noted ≡ now ++ later)

-- the threads of the state to which labels led
abbrev pub threads_in : Replayed → List Thread
threads_in (Whole state) = state.threads
threads_in (Stuck label state) = state.threads

-- the labels that an event asks for where these labels lead from the start
abbrev pub asked_after : Setup → List Label → Event → List Label
asked_after setup before event = asked_labels setup (threads_in (replay setup (start_state setup) before)) event

-- The labels of events where each one's are those that it asks for where the labels before it lead from the start.
abbrev pub settled_labels : Setup → List Label → List Event → List Label
settled_labels setup before [] = []
settled_labels setup before (event ∷ events) = asked_after setup before event ++ settled_labels setup (before ++ asked_after setup before event) events
