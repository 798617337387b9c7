-- The notes that one event adds to a log: which ones may stand in it, and that the rack stands for the log with them.
use Rattle.std.specs.Prelude.{◌≡◌, ◌⊎◌, ℕ, List, ◌++◌, slice_get, IsSomeAnd}
use Rattle.std.specs.List.{AllByRecursion}
use Rattle.mind_base.specs.declared.events.Event.{Event}
use Rattle.mind_base.specs.declared.events.Event.TheVariants.{Step, Drain, Evict, Deliver, Epoch, Settle}
use Rattle.mind_base.specs.declared.images.Image.{Image}
use Rattle.mind_base.specs.declared.links.LinkKind.TheVariants.{Down}
use Rattle.mind_base.specs.declared.links.Side.TheVariants.{Messages}
use Rattle.mind_base.specs.declared.notes.Note.{Note}
use Rattle.mind_base.specs.declared.notes.Note.TheVariants as note
use Rattle.mind_base.specs.declared.plans.RackPlan.{RackPlan}
use Rattle.rack_core.specs.Rack.{RackView}
use Rattle.rack_core.specs.StandLog.{StandsForLog}

-- ---- what an event is for a hart or a blade

abbrev pub IsStepOf : ℕ → Event → Type 0
IsStepOf h (Step hart) = h ≡ hart
IsStepOf h event = ⊥

abbrev pub IsDrainOf : ℕ → Event → Type 0
IsDrainOf h (Drain hart) = h ≡ hart
IsDrainOf h event = ⊥

abbrev pub IsEvictAt : ℕ → Event → Type 0
IsEvictAt blade (Evict b page) = blade ≡ b
IsEvictAt blade event = ⊥

-- a frame of messages is delivered to the blade
abbrev pub ComesTo : ℕ → Event → Type 0
ComesTo blade (Deliver link Messages k) = (link.kind ≡ Down) × (link.number ≡ blade)
ComesTo blade event = ⊥

-- the thread is the blade's
abbrev pub IsThreadOf : RackPlan → ℕ → ℕ → Type 0
IsThreadOf plan blade h = IsSomeAnd (slice_get plan.threads h) (λ thread. thread.blade ≡ blade)

-- a thread of the blade takes a step, or drains
abbrev pub IsByThread : RackPlan → ℕ → Event → Type 0
IsByThread plan blade (Step hart) = IsThreadOf plan blade hart
IsByThread plan blade (Drain hart) = IsThreadOf plan blade hart
IsByThread plan blade event = ⊥

-- a frame of messages is delivered to the blade of thread h
abbrev pub ComesFor : RackPlan → ℕ → Event → Type 0
ComesFor plan h event = (blade : ℕ) × IsThreadOf plan blade h × ComesTo blade event

abbrev pub IsEpoch : Event → Type 0
IsEpoch Epoch = Unit {0}
IsEpoch event = ⊥

-- the event is a settling, or else this is so of it
abbrev pub OrSettles : Event → Type 0 → Type 0
OrSettles Settle Else = Unit {0}
OrSettles event Else = Else

-- ---- notes

-- The note may stand in the event. A settling has all that nodes note. What the directory notes of its entries may
-- stand in any event; that an event begins is noted by who runs it, and no command is decided yet.
abbrev pub StandsIn : RackPlan → Event → Note → Type 0
StandsIn plan event (note.Exec h) = OrSettles event (IsStepOf h event ⊎ ComesFor plan h event)
StandsIn plan event (note.Drain h) = OrSettles event (IsStepOf h event ⊎ (IsDrainOf h event ⊎ ComesFor plan h event))
StandsIn plan event (note.Take blade page writable) = OrSettles event (ComesTo blade event)
StandsIn plan event (note.Down blade page) = OrSettles event (ComesTo blade event)
StandsIn plan event (note.Give blade page) = OrSettles event (ComesTo blade event ⊎ (IsEvictAt blade event ⊎ IsByThread plan blade event))
StandsIn plan event (note.Split range) = OrSettles event (IsEpoch event)
StandsIn plan event (note.Region range state) = Unit {0}
StandsIn plan event (note.Gone range) = Unit {0}
StandsIn plan event (note.Merge range) = Unit {0}
StandsIn plan event (note.Command index) = ⊥
StandsIn plan event (note.Moved index outcome) = ⊥
StandsIn plan event (note.Event index) = ⊥

-- each note stands in its place
abbrev pub AreInPlace : RackPlan → Event → List Note → Type 0
AreInPlace plan event notes = AllByRecursion (StandsIn plan event) notes

-- whatever log the rack stood for, it stands for that log with these notes behind it
abbrev pub CarriesOn : List Image → RackView → RackView → List Note → Type 0
CarriesOn images old new noted = (log : List Note) → StandsForLog images old log → StandsForLog images new (log ++ noted)

-- ---- by the node

-- a note of what a blade did, itself or one of its harts
abbrev pub IsOfBlade : ℕ → (ℕ → Type 0) → Note → Type 0
IsOfBlade blade Has (note.Exec h) = Has h
IsOfBlade blade Has (note.Drain h) = Has h
IsOfBlade blade Has (note.Take b page writable) = b ≡ blade
IsOfBlade blade Has (note.Give b page) = b ≡ blade
IsOfBlade blade Has (note.Down b page) = b ≡ blade
IsOfBlade blade Has note = ⊥

-- a note of the directory
abbrev pub IsOfSwitch : Note → Type 0
IsOfSwitch (note.Region range state) = Unit {0}
IsOfSwitch (note.Gone range) = Unit {0}
IsOfSwitch note = ⊥
