-- What was noted in two parts leads the machine on in two parts.
use Rattle.std.proofs.Common.{◌≡◌, ◌+◌, ◌∙◌, ap, sym, List, ◌++◌, length}
use Rattle.std.proofs.lemmas.List.Elements.{filter_map-append}
use Rattle.mind_base.specs.Page.{PageView}
use Rattle.mind_base.specs.declared.images.Image.{Image}
use Rattle.mind_base.specs.declared.notes.Note.{Note}
use Rattle.page_image.specs.PageImage.{PageImageView}
use Rattle.coherence.specs.Facts.{AreFrames}
use Rattle.tso_machine.specs.Replay.{Whole, advance_all, label_of, labels, replay}
use Rattle.tso_machine.specs.State.{Setup, State}
use Rattle.tso_machine.proofs.Callers.{advance_all-append, renumbered}
use Rattle.rack_core.specs.BladeMoves.{AreBladesSound}
use Rattle.rack_core.specs.Rack.{RackView}
use Rattle.rack_core.specs.Seen.{seen}
use Rattle.rack_core.specs.StandRuns.{GoesWith, LeadsMachine}

-- the labels of two parts of a log are replayed one part after the other
pub replay-then : (u : Setup) (s m t : State) (first later : List Note) → replay u s (labels first) ≡ Whole m → replay u m (labels later) ≡ Whole t → replay u s (labels (first ++ later)) ≡ Whole t
replay-then u s m t first later one two = ap (replay u s) (filter_map-append label_of first later)
    ∙ advance_all-append u 0 (Whole s) (labels first) (labels later)
    ∙ ap (λ r. advance_all u (0 + length (labels first)) r (labels later)) one
    ∙ renumbered u 0 (0 + length (labels first)) m t (labels later) two

pub machine-then : (setup : Setup) (m : State) (first later : List Note) (mid new : RackView) (flat newer : PageView → PageImageView) → (one : LeadsMachine setup m first mid flat)
    → LeadsMachine setup one.next later new newer → LeadsMachine setup m (first ++ later) new newer
machine-then setup m first later mid new flat newer one two = record {
  next = two.next;
  run = replay-then setup m one.next two.next first later one.run two.run;
  stands = two.stands;
  pending = two.pending;
  one = two.one;
}

-- a rack to which the machine was led goes with where it was led
pub goes-led : (images : List Image) (setup : Setup) (m : State) (noted : List Note) (old new : RackView) (was flat : PageView → PageImageView) → GoesWith images setup old was m → new.plan ≡ old.plan
    → AreFrames (seen new flat) → AreBladesSound new → (led : LeadsMachine setup m noted new flat) → GoesWith images setup new flat led.next
goes-led images setup m noted old new was flat goes plan frames sound led = record {
  plan = goes.plan ∙ sym plan;
  code = goes.code;
  one = led.one;
  frames = frames;
  sound = sound;
  pending = led.pending;
  stands = led.stands;
}
