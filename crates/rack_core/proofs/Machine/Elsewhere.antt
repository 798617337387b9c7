-- Where no blade changed, and no permission, the rack stands for the same state of the machine.
use Rattle.std.proofs.Common.{◌≡◌, ℕ, ◌∙◌, ap, sym, subst, List, [], slice_get}
use Rattle.mind_base.specs.Fit.{IsFit}
use Rattle.mind_base.specs.Page.{PageView}
use Rattle.mind_base.specs.declared.images.Image.{Image}
use Rattle.mind_base.specs.declared.notes.Note.{Note}
use Rattle.page_image.specs.PageImage.{PageImageView}
use Rattle.protect_table.specs.Protect.{permission_at}
use Rattle.compute_blade.specs.Blade.{HartView}
use Rattle.rack_net.specs.Net.{NetView}
use Rattle.wire_msg.specs.declared.msgs.Msg.{Msg}
use Rattle.tso_machine.specs.Replay.{labels, replay}
use Rattle.tso_machine.specs.State.{Setup, State}
use Rattle.rack_core.specs.Rack.{RackView, with_net}
use Rattle.rack_core.specs.Stands.{IsHartAt}
use Rattle.rack_core.specs.StandRuns.{GoesWith, LeadsMachine}
use Rattle.rack_core.specs.Events.{MemoryHears}

-- the blades are as they were, and what the switch permits
pub record IsElsewhere (old new : RackView) : Type 0 where
  pub plan : new.plan ≡ old.plan
  pub blades : new.blades ≡ old.blades
  pub perms : permission_at new.switch.protect ≡ permission_at old.switch.protect

hart-as : (old new : RackView) → IsElsewhere old new → (n : ℕ) (hart : HartView) → IsHartAt new n hart → IsHartAt old n hart
hart-as old new same n hart at = record {
  plan = at.plan;
  blade = at.blade;
  thread = ap (λ p. slice_get p.threads n) (sym same.plan) ∙ at.thread;
  there = ap (λ all. slice_get all at.plan.blade) (sym same.blades) ∙ at.there;
  own = at.own;
}

-- an event elsewhere that notes no label leads the machine nowhere
pub elsewhere-leads : (images : List Image) (setup : Setup) (old new : RackView) (noted : List Note) (flat : PageView → PageImageView) (m : State) → GoesWith images setup old flat m
    → IsElsewhere old new → labels noted ≡ [] → LeadsMachine setup m noted new flat
elsewhere-leads images setup old new noted flat m goes same silent = record {
  next = m;
  run = ap (replay setup m) silent;
  stands = record {
    threads = λ n hart at. goes.stands.threads n hart (hart-as old new same n hart at);
    bytes = goes.stands.bytes;
    perms = goes.stands.perms ∙ sym same.perms;
    images = goes.stands.images;
    tags = λ page granule within hart at. goes.stands.tags page granule within hart (hart-as old new same _ hart at);
    kept = λ n hart reservation at e other there. goes.stands.kept n hart reservation (hart-as old new same n hart at) e other (hart-as old new same _ other there);
  };
  pending = λ n hart at. goes.pending n hart (hart-as old new same n hart at);
  one = record {
    fit = subst IsFit (sym same.plan) goes.one.fit;
    blades = λ c blade there. goes.one.blades c blade (ap (λ all. slice_get all c) (sym same.blades) ∙ there) ∙ sym same.plan;
  };
}

-- a memory blade that hears a message is elsewhere
pub memory-leads : (images : List Image) (setup : Setup) (old new : RackView) (noted : List Note) (flat : PageView → PageImageView) (m : State) → GoesWith images setup old flat m
    → (number : ℕ) (message : Msg) → MemoryHears number message old new noted → LeadsMachine setup m noted new flat
memory-leads images setup old new noted flat m goes number message hears = elsewhere-leads images setup old new noted flat m goes
    (record {
      plan = ap (λ (r : RackView). r.plan) hears.after;
      blades = ap (λ (r : RackView). r.blades) hears.after;
      perms = ap (λ (r : RackView). permission_at r.switch.protect) hears.after;
    })
    (ap labels hears.notes)

-- so is a link that changes
pub net-leads : (images : List Image) (setup : Setup) (old new : RackView) (noted : List Note) (flat : PageView → PageImageView) (m : State) → GoesWith images setup old flat m
    → (net : NetView) → new ≡ with_net net old → noted ≡ [] → LeadsMachine setup m noted new flat
net-leads images setup old new noted flat m goes net after silent = elsewhere-leads images setup old new noted flat m goes
    (record {
      plan = ap (λ (r : RackView). r.plan) after;
      blades = ap (λ (r : RackView). r.blades) after;
      perms = ap (λ (r : RackView). permission_at r.switch.protect) after;
    })
    (ap labels silent)
