-- What is true of every rack is true after each event of the code.
use Rattle.std.proofs.Common.{sym, ℕ, ◌<◌, List, [], length, arith}
use Rattle.std.specs.Prelude.{IsTrue, false}
use Rattle.std.proofs.lemmas.List.{append-nil}
use Rattle.mind_base.specs.Fit.{IsFit}
use Rattle.mind_base.specs.declared.events.Event.{Event}
use Rattle.mind_base.specs.declared.events.Event.TheVariants.{Step, Drain, Evict, Deliver, Lose, Repeat, Resend, Epoch, Ask, Settle}
use Rattle.mind_base.specs.declared.images.Image.{Image}
use Rattle.mind_base.specs.declared.links.LinkKind.{LinkKind}
use Rattle.mind_base.specs.declared.links.LinkKind.TheVariants.{Up, Down, To, From}
use Rattle.mind_base.specs.declared.notes.Note.{Note}
use Rattle.mind_base.specs.declared.plans.RackPlan.{RackPlan}
use Rattle.rack_net.specs.Net.{links_of_kind}
use Rattle.rack_core.specs.Calls.{IsEventFor, IsKept, Notes}
use Rattle.rack_core.specs.Events.{Leads}
use Rattle.rack_core.specs.Rack.{RackView}
use Rattle.rack_core.specs.Safe.{IsOfRack}
use Rattle.rack_core.specs.Shape.{IsShaped}
use Rattle.rack_core.proofs.Events.Served.{event-served}
use Rattle.rack_core.proofs.Events.Whole.{event_keeps}

-- there are at most 8 links of each kind
pub few-links : (plan : RackPlan) (number : ℕ) (kind : LinkKind) → IsFit plan → number < links_of_kind (length plan.frames) (length plan.memories) kind → number < 8
few-links plan number Up fit lt = omega (arith, lt, fit.blades.1)
few-links plan number Down fit lt = omega (arith, lt, fit.blades.1)
few-links plan number To fit lt = omega (arith, lt, fit.memories.1)
few-links plan number From fit lt = omega (arith, lt, fit.memories.1)

pub of-rack : (plan : RackPlan) (event : Event) → IsFit plan → IsEventFor plan event → IsOfRack event
of-rack plan (Step hart) fit is = tt
of-rack plan (Drain hart) fit is = tt
of-rack plan (Evict blade page) fit is = tt
of-rack plan (Deliver link side k) fit is = few-links plan link.number link.kind fit is
of-rack plan (Lose link side k) fit is = tt
of-rack plan (Repeat link side k) fit is = tt
of-rack plan (Resend link) fit is = tt
of-rack plan Epoch fit is = tt
of-rack plan (Ask command) fit is = tt
of-rack plan Settle fit is = tt

pub kept-after : (images : List Image) (event : Event) (old new : RackView) (notes notes' : List Note) → IsKept old → IsEventFor old.plan event → IsShaped new
    → Notes (Leads images event old new) notes notes' → IsKept new
kept-after images event old new notes notes' kept fits shape done = record {
  shape = shape;
  safe = event_keeps images event old new done.0 (of-rack old.plan event kept.shape.fit fits) kept.safe done.1;
  served = event-served images event old new done.0 kept.served done.1;
}

-- an event without a note
pub silent : (P : List Note → Type 0) (notes : List Note) → P [] → Notes P notes notes
silent P notes done = ([], done, sym (append-nil notes))

pub not-true : {P : Type 0} → IsTrue false → P
not-true t = let never : ⊥ = cc in absurd never
