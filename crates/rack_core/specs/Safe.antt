-- What is true of the rack at every moment.
use Rattle.std.specs.Prelude.{◌≡◌, ◌<◌, ℕ, List, [], ◌∷◌, ◌++◌, length, slice_get, Some}
use Rattle.std.specs.List.{AllByRecursion}
use Rattle.mind_base.specs.Page.{PageView}
use Rattle.mind_base.specs.declared.events.Event.{Event}
use Rattle.mind_base.specs.declared.events.Event.TheVariants.{Deliver}
use Rattle.mind_base.specs.declared.images.Image.{Image}
use Rattle.mind_base.specs.declared.notes.Note.{Note}
use Rattle.rack_core.specs.Events.{Leads}
use Rattle.page_image.specs.PageImage.{PageImageView}
use Rattle.switch_core.specs.Switch.{place_in}
use Rattle.coherence.specs.Facts.{IsCoherent}
use Rattle.rack_core.specs.BladeMoves.{AreBladesSound}
use Rattle.rack_core.specs.Rack.{RackView}
use Rattle.rack_core.specs.Seen.{seen}
use Rattle.rack_core.specs.SwitchMoves.{IsSoundSwitch, AreAsked, LieBelow}

-- Blades and switch are sound; memory blades are asked for pages that lie there, and have an image for each.
pub record IsSound (rack : RackView) : Type 0 where
  pub blades : AreBladesSound rack
  pub switch : IsSoundSwitch rack.switch
  pub asked : AreAsked rack
  pub room : (memory : ℕ) (pages : List PageImageView) → slice_get rack.memories memory ≡ Some pages → LieBelow (place_in rack.switch) memory (length pages)

-- there is a newest image of each page with which the rack is coherent, and it is sound
pub record IsSafe (rack : RackView) : Type 0 where
  pub flat : PageView → PageImageView
  pub coherent : IsCoherent (seen rack flat)
  pub sound : IsSound rack

-- a link that the event delivers on is one of at most 8 of its kind
abbrev pub IsOfRack : Event → Type 0
IsOfRack (Deliver link side k) = link.number < 8
IsOfRack event = Unit {0}

abbrev pub AreOfRack : List Event → Type 0
AreOfRack events = AllByRecursion IsOfRack events

-- ---- events one after another

-- the rack is reached from the first one by the events in order, with these notes
abbrev pub Reaches : List Image → List Event → RackView → RackView → List Note → Type 0
Reaches images [] first last noted = (last ≡ first) × (noted ≡ [])
Reaches images (event ∷ events) first last noted = (mid : RackView) × (now later : List Note)
    × Leads images event first mid now × Reaches images events mid last later × (noted ≡ now ++ later)
