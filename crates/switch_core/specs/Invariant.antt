-- What is true of every switch.
use Rattle.std.specs.Prelude.{◌≡◌, ◌≢◌, ℕ, ◌<◌, ◌≤◌, ◌^◌, false, length, Option, Some, None}
use Rattle.std.specs.List.{AllByRecursion}
use Rattle.mind_base.specs.Fit.{IsFit}
use Rattle.mind_base.specs.declared.notes.State.{State}
use Rattle.mind_base.specs.declared.notes.State.TheVariants.{I, S, M}
use Rattle.invalidate_multicast.specs.Transition.{is_answered}
use Rattle.region_directory.specs.declared.entries.Busy.{Busy}
use Rattle.region_directory.specs.declared.entries.Entry.{Entry}
use Rattle.request_list.specs.declared.requests.Request.{Request}
use Rattle.switch_core.specs.Switch.{SwitchView}

-- sharers are some, and owners and sharers are among this many blades
abbrev pub IsFitState : ℕ → State → Type 0
IsFitState blades I = Unit {0}
IsFitState blades (S sharers) = (sharers ≢ 0) × (sharers < 2 ^ blades)
IsFitState blades (M owner) = owner < blades

-- so do those of the state that a transition leads to
abbrev pub IsFitTarget : ℕ → Option Busy → Type 0
IsFitTarget blades None = Unit {0}
IsFitTarget blades (Some busy) = IsFitState blades busy.target

pub record IsFitEntry (blades : ℕ) (entry : Entry) : Type 0 where
  pub state : IsFitState blades entry.state
  pub target : IsFitTarget blades entry.busy

-- a request is one of these blades'
pub record IsFitRequest (blades : ℕ) (r : Request) : Type 0 where
  pub blade : r.blade < blades

pub record IsSwitch (switch : SwitchView) : Type 0 where
  -- the plan describes a rack
  pub plan : IsFit switch.plan
  -- pages have their homes where the plan says
  pub homes : switch.table.homes ≡ switch.plan.memories
  -- pages that were moved lie in memory blades of the plan
  pub outliers : AllByRecursion (λ o. o.memory < length switch.plan.memories) switch.table.outliers
  -- the permissions have as many blocks as the plan says
  pub slots : switch.protect.slots ≡ switch.plan.protect
  -- each entry has a slot
  pub fits : length switch.directory.entries ≤ switch.directory.slots
  -- states and targets of transitions name blades of the plan
  pub entries : AllByRecursion (IsFitEntry (length switch.plan.frames)) switch.directory.entries
  -- a transition waits for somebody
  pub waits : AllByRecursion (λ entry. is_answered entry.busy ≡ false) switch.directory.entries
  -- requests are those of blades of the plan
  pub requests : AllByRecursion (IsFitRequest (length switch.plan.frames)) switch.requests

-- the last transition has the last number that there is
pub record IsSpent (switch : SwitchView) : Type 0 where
  pub last : switch.last ≡ 4294967295
  pub fits : length switch.directory.entries ≤ switch.directory.slots
