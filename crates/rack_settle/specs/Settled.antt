-- What a settling does: the turns that its rule names, one after another, until it names none.
use Rattle.std.specs.Prelude.{◌≡◌, List, [], ◌∷◌, ◌++◌, Option, Some, None}
use Rattle.std.specs.List.{AllByRecursion}
use Rattle.mind_base.specs.declared.events.Event.{Event}
use Rattle.mind_base.specs.declared.events.Event.TheVariants.{Step, Drain, Evict, Deliver, Lose, Repeat, Resend, Epoch, Ask, Settle}
use Rattle.mind_base.specs.declared.images.Image.{Image}
use Rattle.mind_base.specs.declared.notes.Note.{Note}
use Rattle.rack_net.specs.Net.{IsFirstFrame, IsFirstKept}
use Rattle.rack_core.specs.Calls.{HasNoFrame, IsEventFor, IsKept, IsQuiet, KeepsNothing}
use Rattle.rack_core.specs.Events.{Leads}
use Rattle.rack_core.specs.Noted.{AreInPlace, CarriesOn}
use Rattle.rack_core.specs.Rack.{RackView}

-- The rule names this event: frame 0 of the first wire that is not empty is delivered; where all wires are empty, the
-- first link that keeps messages sends them again.
abbrev pub IsTurn : RackView → Event → Type 0
IsTurn rack (Deliver link side k) = IsFirstFrame rack.net link side × (k ≡ 0)
IsTurn rack (Resend link) = HasNoFrame rack.net × IsFirstKept rack.net link
IsTurn rack (Step hart) = ⊥
IsTurn rack (Drain hart) = ⊥
IsTurn rack (Evict blade page) = ⊥
IsTurn rack (Lose link side k) = ⊥
IsTurn rack (Repeat link side k) = ⊥
IsTurn rack Epoch = ⊥
IsTurn rack (Ask command) = ⊥
IsTurn rack Settle = ⊥

-- it names none
abbrev pub HasNoTurn : RackView → Type 0
HasNoTurn rack = HasNoFrame rack.net × KeepsNothing rack.net

-- the turn that was found is the one that the rule names
abbrev pub FindsTurn : RackView → Option Event → Type 0
FindsTurn rack None = HasNoTurn rack
FindsTurn rack (Some turn) = IsTurn rack turn

-- the rack is reached from the first one by these turns in order, with these notes
abbrev pub AreTurns : List Image → List Event → RackView → RackView → List Note → Type 0
AreTurns images [] first last noted = (last ≡ first) × (noted ≡ [])
AreTurns images (turn ∷ turns) first last noted = (mid : RackView) × (now later : List Note)
    × IsTurn first turn × Leads images turn first mid now × AreTurns images turns mid last later × (noted ≡ now ++ later)

-- The rack is reached by turns, each of which it takes, and it is quiet then: the rule names no other.
pub record Settles (images : List Image) (old new : RackView) (noted : List Note) : Type 0 where
  pub turns : List Event
  pub fits : AllByRecursion (IsEventFor old.plan) turns
  pub taken : AreTurns images turns old new noted
  pub quiet : IsQuiet new

-- ---- what the code that settles keeps

-- turns were taken from the first rack on, each as the rule names it, and their notes are behind the log
pub record HasTurned (images : List Image) (first now : RackView) (before behind : List Note) : Type 0 where
  pub turns : List Event
  pub noted : List Note
  pub fits : AllByRecursion (IsEventFor first.plan) turns
  pub taken : AreTurns images turns first now noted
  pub stands : CarriesOn images first now noted
  pub places : AreInPlace first.plan Settle noted
  pub kept : IsKept now
  pub plan : now.plan ≡ first.plan
  pub log : behind ≡ before ++ noted
