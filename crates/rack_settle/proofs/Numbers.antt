-- The log of a run by the numbers of its events.
use Rattle.std.proofs.Common.{◌≡◌, ℕ, suc, List, [], ◌∷◌, length, subst}
use Rattle.std.specs.List.{AllByRecursion}
use Rattle.mind_base.specs.declared.events.Event.{Event}
use Rattle.mind_base.specs.declared.images.Image.{Image}
use Rattle.mind_base.specs.declared.notes.Note.{Note}
use Rattle.mind_base.specs.declared.plans.RackPlan.{RackPlan}
use Rattle.rack_core.specs.Noted.{StandsIn, AreInPlace}
use Rattle.rack_core.specs.Rack.{RackView}
use Rattle.rack_settle.specs.Numbered.{IsNoNumber, AreOfEvents}
use Rattle.rack_settle.specs.Ran.{Ran}

-- what an event adds has no numbers of events
pub no-numbers : (plan : RackPlan) (event : Event) (notes : List Note) → AreInPlace plan event notes → AllByRecursion IsNoNumber notes
no-numbers plan event [] all = tt
no-numbers plan event (n ∷ notes) all = (λ index is. subst (StandsIn plan event) is all.0, no-numbers plan event notes all.1)

pub ran-numbered : (images : List Image) (from : ℕ) (events : List Event) (first last : RackView) (notes : List Note) → Ran images from events first last notes → AreOfEvents from (length events) notes
ran-numbered images from [] first last notes ran = ran.1
ran-numbered images from (event ∷ events) first last notes (mid, added, later, leads, stand, rest, split) =
    (added, later, no-numbers first.plan event added stand, ran-numbered images (suc from) events mid last later rest, split)
