-- A rack that ran through the events of a schedule.
use Rattle.std.specs.Prelude.{◌≡◌, ◌⊎◌, ℕ, suc, List, [], ◌∷◌, ◌++◌, length}
use Rattle.mind_base.specs.declared.events.Event.{Event}
use Rattle.mind_base.specs.declared.events.Event.TheVariants.{Settle}
use Rattle.mind_base.specs.declared.images.Image.{Image}
use Rattle.mind_base.specs.declared.notes.Note.{Note}
use Rattle.mind_base.specs.declared.notes.Note.TheVariants as note
use Rattle.mind_base.specs.declared.plans.RackPlan.{RackPlan}
use Rattle.rack_core.specs.Calls.{IsEventFor, IsKept}
use Rattle.rack_core.specs.Events.{Leads}
use Rattle.rack_core.specs.Noted.{AreInPlace, CarriesOn}
use Rattle.rack_core.specs.Rack.{RackView}
use Rattle.rack_core.specs.StandLog.{StandsForLog}
use Rattle.rack_settle.specs.Settled.{Settles}

-- the event is a settling, or one that a rack of this plan takes by itself
abbrev pub IsRunFor : RackPlan → Event → Type 0
IsRunFor plan event = (event ≡ Settle) ⊎ IsEventFor plan event

-- what the event adds are these notes: a settling settles, and any other event leads on by itself
abbrev pub LeadsOrSettles : List Image → Event → RackView → RackView → List Note → Type 0
LeadsOrSettles images event old new noted = ((event ≡ Settle) × Settles images old new noted) ⊎ Leads images event old new noted

-- The rack is reached from the first one by the events in order, numbered from this number on, with these notes: the
-- number of each event, and behind it what the event adds, which may stand there.
abbrev pub Ran : List Image → ℕ → List Event → RackView → RackView → List Note → Type 0
Ran images from [] first last notes = (last ≡ first) × (notes ≡ [])
Ran images from (event ∷ events) first last notes = (mid : RackView) × (added later : List Note)
    × LeadsOrSettles images event first mid added × AreInPlace first.plan event added × Ran images (suc from) events mid last later × (notes ≡ note.Event from ∷ (added ++ later))

-- the rack ran through these events from the first one on, and stands for the log
pub record HasRun (images : List Image) (done : List Event) (first last : RackView) (log : List Note) : Type 0 where
  pub plan : last.plan ≡ first.plan
  pub kept : IsKept last
  pub ran : Ran images 0 done first last log
  pub stands : StandsForLog images last log

-- An event of these stopped, and left this rack. The log is that of the rack that ran through the events before it, and
-- behind it there is at most the number of the one that stopped.
pub record HasStopped (images : List Image) (events : List Event) (first stopped : RackView) (log : List Note) : Type 0 where
  pub done : List Event
  pub event : Event
  pub left : List Event
  pub front : events ≡ done ++ (event ∷ left)
  pub last : RackView
  pub before : List Note
  pub ran : HasRun images done first last before
  pub behind : (log ≡ before) ⊎ (log ≡ before ++ note.Event (length done) ∷ [])
  pub plan : stopped.plan ≡ first.plan

-- ---- what the code that runs keeps

-- one event: its number is noted, and then what it adds
pub record Runs (images : List Image) (index : ℕ) (event : Event) (old new : RackView) (before behind : List Note) : Type 0 where
  pub added : List Note
  pub leads : LeadsOrSettles images event old new added
  pub places : AreInPlace old.plan event added
  pub stands : CarriesOn images old new added
  pub kept : IsKept new
  pub log : behind ≡ before ++ note.Event index ∷ added
