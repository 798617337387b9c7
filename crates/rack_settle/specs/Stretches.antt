-- What a schedule's settlings say of its labels.
use Rattle.std.specs.Prelude.{◌≡◌, ◌≤◌, ◌⊎◌, ℕ, ◌+◌, List, [], ◌∷◌, ◌++◌, length, slice_get, Some}
use Rattle.std.specs.List.{AllByRecursion}
use Rattle.std.specs.List.Sorted.{IsPermutation}
use Rattle.mind_base.specs.declared.commands.Command.{Command}
use Rattle.mind_base.specs.declared.events.Event.{Event}
use Rattle.mind_base.specs.declared.events.Event.TheVariants.{Ask, Settle}
use Rattle.mind_base.specs.declared.notes.Note.{Note}
use Rattle.mind_base.specs.declared.plans.RackPlan.{RackPlan}
use Rattle.tso_machine.specs.Replay.{labels}
use Rattle.tso_machine.specs.State.{Setup}
use Rattle.rack_settle.specs.Labels.{IsOneEach, all_asked, settled_labels}
use Rattle.rack_settle.specs.Numbered.{HasPart}

-- ---- stretches

abbrev pub IsNoSettling : Event → Type 0
IsNoSettling event = event ≡ Settle → ⊥

abbrev pub IsNoCommand : Event → Type 0
IsNoCommand event = (command : Command) → event ≡ Ask command → ⊥

-- events at the start of a schedule, none or with a settling as the last one
abbrev pub EndSettled : List Event → Type 0
EndSettled before = (before ≡ []) ⊎ ((front : List Event) × (before ≡ front ++ Settle ∷ []))

-- one event, or no command and at most one step or drain of the threads of each blade
abbrev pub SettleTogether : RackPlan → List Event → Type 0
SettleTogether plan events = (length events ≡ 1) ⊎ (AllByRecursion IsNoCommand events × IsOneEach plan events)

-- Events without a settling, at the start or behind a settling, and with a settling behind them, which settles them together.
pub record IsStretch (plan : RackPlan) (events before stretch after : List Event) : Type 0 where
  pub split : events ≡ before ++ (stretch ++ Settle ∷ after)
  pub begins : EndSettled before
  pub unsettled : AllByRecursion IsNoSettling stretch
  pub together : SettleTogether plan stretch

-- The part of a log that has the events of a stretch, the first of which has this number, and the settling behind it; so
-- many events come later. Its labels are those that the events ask for in the state to which the labels before lead: in
-- their order where the stretch is one event, or none, and else in any order.
pub record HasItsLabels (setup : Setup) (log : List Note) (from : ℕ) (stretch : List Event) (left : ℕ) : Type 0 where
  pub part : HasPart setup log from (length stretch + 1) left
  pub open part use *
  pub same : IsPermutation (labels now) (all_asked setup state.threads stretch)
  pub exact : length stretch ≤ 1 → labels now ≡ all_asked setup state.threads stretch

-- ---- schedules

-- each event that is no settling has one behind it
abbrev pub AreSettledEach : List Event → Type 0
AreSettledEach [] = Unit {0}
AreSettledEach (event ∷ events) = (IsNoSettling event → slice_get events 0 ≡ Some Settle) × AreSettledEach events

-- Every stretch of the events has its labels. Where each event is settled before the next one, the labels of the whole
-- log are those that the events ask for, one after another, whatever the links did.
pub record HasSettledLabels (setup : Setup) (plan : RackPlan) (events : List Event) (log : List Note) : Type 0 where
  pub stretches : (before stretch after : List Event) → IsStretch plan events before stretch after → HasItsLabels setup log (length before) stretch (length after)
  pub determined : AreSettledEach events → labels log ≡ settled_labels setup [] events
