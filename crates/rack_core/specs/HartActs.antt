-- What a hart is let do at its blade, and what the blade leaves then.
use Rattle.std.specs.Prelude.{◌≡◌, ℕ, List, Option, Result, Err, OnErr, OnOk, IsSome}
use Rattle.mind_base.specs.Fit.{FitImages}
use Rattle.mind_base.specs.declared.events.Event.{Event}
use Rattle.mind_base.specs.declared.events.Event.TheVariants as event
use Rattle.mind_base.specs.declared.failures.Stop.{Stop}
use Rattle.mind_base.specs.declared.failures.Stop.TheVariants.{Spent}
use Rattle.mind_base.specs.declared.images.Image.{Image}
use Rattle.mind_base.specs.declared.notes.Note.{Note}
use Rattle.wire_msg.specs.declared.msgs.Msg.{Msg}
use Rattle.compute_blade.specs.Blade.{BladeView, BladeEffect, BeginsWith, DidSome, HasSpent, StaysBlade, hart_of}
use Rattle.compute_blade.specs.Steps.{after_step, blade_after_drain}
use Rattle.rack_core.specs.declared.acts.HartAct.{HartAct}
use Rattle.rack_core.specs.declared.acts.HartAct.TheVariants.{Step, Drain}

-- the event in which hart h is let do it
abbrev pub hart_event : HartAct → ℕ → Event
hart_event Step h = event.Step h
hart_event Drain h = event.Drain h

-- what its blade does
abbrev pub hart_acted : HartAct → List Image → ℕ → BladeView → Option BladeEffect
hart_acted Step images h = after_step images h
hart_acted Drain images h = blade_after_drain h

-- hart h is one of the blade, and the images are its plan's
pub record HartMayAct (h : ℕ) (images : List Image) (blade : BladeView) : Type 0 where
  pub own : IsSome (hart_of blade h)
  pub fit : FitImages blade.plan.images images

-- A call with this result did what its hart was let do. Where it stops, messages and notes are behind those that were
-- there, and where hart h has given its last tag, the blade is as it was.
pub record HasActed {T : Type 0} (effect : Option BladeEffect) (h : ℕ) (result : Result T Stop) (old new : BladeView) (out out' : List Msg) (notes notes' : List Note) : Type 0 where
  pub ok : OnOk result (DidSome effect new out out' notes notes')
  pub spent : result ≡ Err Spent → HasSpent h old × (new ≡ old)
  pub err : OnErr result (BeginsWith out out' × BeginsWith notes notes')
  pub keeps : StaysBlade old new
