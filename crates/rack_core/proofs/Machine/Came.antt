-- A page that comes, with what waited for it, leads the machine on.
use Rattle.std.proofs.Common.{◌≡◌, ℕ, ◌∙◌, Bool, ap, List, [], ◌∷◌, ◌++◌, Some, slice_get}
use Rattle.std.proofs.lemmas.List.Elements.{filter_map-append}
use Rattle.mind_base.specs.Page.{PageView}
use Rattle.mind_base.specs.declared.commands.Perm.{Perm}
use Rattle.mind_base.specs.declared.images.Image.{Image}
use Rattle.mind_base.specs.declared.notes.Note.{Note}
use Rattle.page_cache.specs.PageCache.{frame_of, put_of, entries_after_put}
use Rattle.page_image.specs.PageImage.{PageImageView}
use Rattle.wire_msg.specs.declared.msgs.Msg.{Msg}
use Rattle.wire_msg.specs.declared.msgs.Msg.TheVariants.{Fill}
use Rattle.compute_blade.specs.Blade.{BladeView}
use Rattle.compute_blade.specs.Messages.{after_message, need_asked}
use Rattle.compute_blade.specs.Pages.{taken}
use Rattle.compute_blade.specs.declared.kept.Answer.TheVariants.{Filled}
use Rattle.coherence.specs.Facts.{IsCoherent}
use Rattle.tso_machine.specs.Replay.{labels, label_of, replay}
use Rattle.tso_machine.specs.State.{Setup, State}
use Rattle.rack_core.specs.BladeMoves.{handing}
use Rattle.rack_core.specs.Rack.{RackView}
use Rattle.rack_core.specs.Seen.{seen}
use Rattle.rack_core.specs.StandLog.{AreHartsPlaced}
use Rattle.rack_core.specs.StandRuns.{GoesWith, LeadsMachine}
use Rattle.rack_core.proofs.Moves.Blade.Fills.{came}
use Rattle.rack_core.proofs.Moves.Blade.Answered.{has_come}
use Rattle.rack_core.proofs.Lists.Lookups.{cache-put}
use Rattle.rack_core.proofs.Machine.Ending.{answers-run}
use Rattle.rack_core.proofs.Machine.Blades.{Runs}
use Rattle.rack_core.proofs.Machine.Fills.{resumes-run}
use Rattle.rack_core.proofs.Machine.Mids.{taken-silent}
use Rattle.rack_core.proofs.Machine.Harts.{held-coherent}

-- what was done after notes without a label leads the machine on
after-silent : (setup : Setup) (m : State) (first later : List Note) (rack : RackView) (flat : PageView → PageImageView) → labels first ≡ []
    → LeadsMachine setup m later rack flat → LeadsMachine setup m (first ++ later) rack flat
after-silent setup m first later rack flat silent led = record {
  next = led.next;
  run = ap (replay setup m) (filter_map-append label_of first later ∙ ap (λ l. l ++ labels later) silent) ∙ led.run;
  stands = led.stands;
  pending = led.pending;
  one = led.one;
}

pub fill-runs : (images : List Image) (setup : Setup) (old : RackView) (flat : PageView → PageImageView) (m : State) → GoesWith images setup old flat m → AreHartsPlaced old
    → (c : ℕ) (blade : BladeView) → slice_get old.blades c ≡ Some blade → (page : PageView) (perm : Perm) (writable : Bool) (image : PageImageView) (rest : List Msg)
    → IsCoherent (handing c (Fill page perm writable image ∷ rest) (seen old flat)) → Runs images setup old flat m c (after_message images (Fill page perm writable image) blade)
unfolding came
fill-runs images setup old flat m goes placed c blade there page perm writable image rest coherent new newer whole counted newest =
    let frame = came page perm writable image in
    let entries = entries_after_put blade.cache page frame in
    let sound = goes.sound c blade there in
    let f = has_come old flat c blade there sound page perm writable image rest coherent in
    let does = answers-run Filled images setup old flat m goes placed c blade there entries page f.asked f.out (cache-put blade.cache page frame sound.cache) f.frames
    (λ mid perms frames on hart at is. resumes-run images setup mid flat m on f.asked.hart hart at (need_asked f.asked)
    (held-coherent mid flat frames f.asked.hart hart at f.asked.page frame (ap (frame_of f.asked.page) is ∙ f.held)) f.asked.waits) in
    after-silent setup m (taken page perm writable image blade).noted _ new newer (taken-silent blade.number page writable (put_of blade.cache page)) (does new newer whole counted newest)
