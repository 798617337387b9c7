-- In a rack of its plan's shape the harts stand where the plan has them, and their stores have tags.
use Rattle.std.proofs.Common.{◌∙◌, ap, sym, slice_get, is_some}
use Rattle.std.proofs.lemmas.Bool.{eqb-true}
use Rattle.rack_core.specs.Rack.{RackView}
use Rattle.rack_core.specs.Shape.{IsShaped}
use Rattle.rack_core.specs.StandLog.{AreHartsPlaced}
use Rattle.rack_core.specs.StandRuns.{AreCounted}

pub shaped-counted : (rack : RackView) → IsShaped rack → AreCounted rack
shaped-counted rack shaped h hart at =
    let blade = shaped.each at.plan.blade at.blade at.there in
    (blade.shape.harts h at.plan hart (ap (λ p. slice_get p.threads h) blade.plan ∙ at.thread) at.own).stores

pub shaped-placed : (rack : RackView) → IsShaped rack → AreHartsPlaced rack
shaped-placed rack shaped c blade h hart plan there own planned =
    let its = shaped.each c blade there in
    let here = sym (its.shape.own h plan (ap (λ p. slice_get p.threads h) its.plan ∙ planned)) ∙ ap is_some own in
    eqb-true plan.blade blade.number here ∙ its.number
