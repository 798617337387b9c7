-- Pages that a blade gives up, or may write no longer, note no label, and the rack stands for the same state.
use Rattle.std.proofs.Common.{◌≡◌, ℕ, ◌==◌, ◌∙◌, Bool, true, false, ap, sym, refl, subst, List, [], ◌∷◌, ◌++◌, Option, Some, None, slice_get}
use Rattle.std.specs.Prelude.{if◌then◌else◌, option_and_then}
use Rattle.std.proofs.lemmas.Bool.{eqb-true}
use Rattle.std.proofs.lemmas.List.Elements.{filter_map-append}
use Rattle.std.proofs.lemmas.Option.{same_Some}
use Rattle.mind_base.specs.Page.{PageView}
use Rattle.mind_base.specs.Range.{RangeView}
use Rattle.mind_base.specs.declared.events.Event.TheVariants.{Evict}
use Rattle.mind_base.specs.declared.images.Image.{Image}
use Rattle.mind_base.specs.declared.notes.Note.{Note}
use Rattle.page_cache.specs.PageCache.{IsPageCache, frame_of, same_page, lowered_frame, without_page, with_change}
use Rattle.page_cache.specs.declared.frames.Frame.{Frame}
use Rattle.page_cache.proofs.Callers.{same_page-true}
use Rattle.page_image.specs.PageImage.{PageImageView}
use Rattle.wire_msg.specs.declared.msgs.Msg.TheVariants.{Inv, Lower}
use Rattle.wire_msg.specs.declared.msgs.Msg.{Msg}
use Rattle.compute_blade.specs.Blade.{HartView, BladeView, BladeEffect, hart_of, with_frames}
use Rattle.compute_blade.specs.Messages.{after_message, acknowledging}
use Rattle.compute_blade.specs.Pages.{giving_up, given_up, lowering, lowered, each_in, held_in, writable_in}
use Rattle.coherence.specs.Facts.{AreFrames, IsCoherent}
use Rattle.coherence.proofs.Callers.{run_keeps}
use Rattle.tso_machine.specs.Replay.{labels, label_of, replay}
use Rattle.tso_machine.specs.State.{Setup, State}
use Rattle.rack_core.specs.Events.{Leads}
use Rattle.rack_core.specs.Rack.{RackView}
use Rattle.rack_core.specs.Seen.{seen}
use Rattle.rack_core.specs.Stands.{IsHartAt, RackStandsFor}
use Rattle.rack_core.specs.StandRuns.{AreCounted, GoesWith, BladeBecame, GoesOn}
use Rattle.rack_core.proofs.Moves.Blade.Calls.{given_up-changes, lowered-changes}
use Rattle.rack_core.proofs.Moves.Blade.Handed.{did, evict_leads}
use Rattle.rack_core.proofs.Lists.Lookups.{slice_get-set, slice_get-set_other, found-without, found-with_change}
use Rattle.rack_core.proofs.Machine.Blades.{Runs, plan-one}
use Rattle.rack_core.proofs.Machine.Events.{acts-run}
use Rattle.rack_core.proofs.Machine.Images.{AreHeld, newest-same}

-- ---- a blade of which the harts are as they were

-- the pages of a blade that are held have their newest images, its harts are as they were, and no label was noted
pub record PagesAlone (flat : PageView → PageImageView) (blade : BladeView) (e : BladeEffect) : Type 0 where
  pub plan : e.blade.plan ≡ blade.plan
  pub harts : e.blade.harts ≡ blade.harts
  pub silent : labels e.noted ≡ []
  pub shape : IsPageCache e.blade.cache
  pub held : AreHeld e.blade.cache.entries flat

-- the harts of the rack are where they were
hart-before : (c : ℕ) (blade changed : BladeView) (old new : RackView) → slice_get old.blades c ≡ Some blade → BladeBecame c changed old new → changed.harts ≡ blade.harts
    → (n : ℕ) (hart : HartView) → IsHartAt new n hart → IsHartAt old n hart
hart-before c blade changed old new there became harts n hart at = by (at.plan.blade == c) refl where
  thread : slice_get old.plan.threads n ≡ Some at.plan
  thread = ap (λ p. slice_get p.threads n) (sym became.plan) ∙ at.thread

  by : (b : Bool) → (at.plan.blade == c) ≡ b → IsHartAt old n hart
  by true s =
      let number : at.plan.blade ≡ c = eqb-true at.plan.blade c s in
      let is : at.blade ≡ changed = same_Some _ _ (sym at.there ∙ ap (slice_get new.blades) number ∙ ap (λ all. slice_get all c) became.blades ∙ slice_get-set old.blades c blade changed there) in
      record {
        plan = at.plan;
        blade = blade;
        thread = thread;
        there = ap (slice_get old.blades) number ∙ there;
        own = ap (λ all. option_and_then (λ own. own) (slice_get all n)) (sym harts) ∙ ap (λ b. hart_of b n) (sym is) ∙ at.own;
      }
  by false s = record {
    plan = at.plan;
    blade = at.blade;
    thread = thread;
    there = sym (ap (λ all. slice_get all at.plan.blade) became.blades ∙ slice_get-set_other old.blades c changed at.plan.blade s) ∙ at.there;
    own = at.own;
  }

-- the rack stands for the same state
pub pages-run : (images : List Image) (setup : Setup) (old : RackView) (flat : PageView → PageImageView) (m : State) → GoesWith images setup old flat m → (c : ℕ) (blade : BladeView)
    → slice_get old.blades c ≡ Some blade → (e : BladeEffect) → PagesAlone flat blade e → Runs images setup old flat m c e
pages-run images setup old flat m goes c blade there e alone new newer became counted newest =
    let same : newer ≡ flat = newest-same e.blade.cache.entries e.blade.cache.entries flat newer alone.held (λ page. refl) newest in
    let before = hart-before c blade e.blade old new there became alone.harts in
    record {
      next = m;
      run = ap (replay setup m) alone.silent;
      stands = subst (λ f. RackStandsFor new f m) (sym same) (record {
        threads = λ n hart at. goes.stands.threads n hart (before n hart at);
        bytes = goes.stands.bytes;
        perms = goes.stands.perms ∙ sym became.perms;
        images = goes.stands.images;
        tags = λ page granule within hart at. goes.stands.tags page granule within hart (before _ hart at);
        kept = λ n hart reservation at e other there. goes.stands.kept n hart reservation (before n hart at) e other (before _ other there);
      });
      pending = λ n hart at. goes.pending n hart (before n hart at);
      one = plan-one c e.blade old new became (alone.plan ∙ goes.one.blades c blade there) goes.one;
    }

-- ---- pages

-- notes that have no label, behind notes that have none
silent-more : (xs ys : List Note) → labels xs ≡ [] → labels ys ≡ [] → labels (xs ++ ys) ≡ []
silent-more xs ys e f = filter_map-append label_of xs ys ∙ ap (λ l. l ++ labels ys) e ∙ f

-- a blade with other pages, which hold their newest images
alone-with : (flat : PageView → PageImageView) (blade : BladeView) (entries : List (PageView × Frame)) (sent : List Msg) (noted : List Note) → labels noted ≡ [] → IsPageCache (with_frames blade entries).cache → AreHeld entries flat
    → PagesAlone flat blade (record { blade = with_frames blade entries; sent = sent; noted = noted })
alone-with flat blade entries sent noted silent shape held = record { plan = refl; harts = refl; silent = silent; shape = shape; held = held }

pub given_up-alone : (flat : PageView → PageImageView) (page : PageView) (blade : BladeView) → IsPageCache blade.cache → AreHeld blade.cache.entries flat → PagesAlone flat blade (given_up page blade)
given_up-alone flat page blade is held = by (frame_of page blade.cache.entries) refl (given_up-changes page blade is).shape where
  less : (q : PageView) (frame : Frame) (b : Bool) → (if b then None else frame_of q blade.cache.entries) ≡ Some frame → frame.image ≡ flat q
  less q frame true e = let never : ⊥ = cc in absurd never
  less q frame false e = held q frame e

  by : (f : Option Frame) → frame_of page blade.cache.entries ≡ f → IsPageCache (giving_up page (frame_of page blade.cache.entries) blade).blade.cache → PagesAlone flat blade (giving_up page f blade)
  by None e shape = record { plan = refl; harts = refl; silent = refl; shape = is; held = held }
  by (Some frame) e shape = alone-with flat blade (without_page page blade.cache.entries) _ _ refl (subst (λ f. IsPageCache (giving_up page f blade).blade.cache) e shape)
      (λ q other is_held. less q other (same_page q page) (sym (found-without page blade.cache.entries is.distinct q) ∙ is_held))

pub lowered-alone : (flat : PageView → PageImageView) (page : PageView) (blade : BladeView) → IsPageCache blade.cache → AreHeld blade.cache.entries flat → PagesAlone flat blade (lowered page blade)
lowered-alone flat page blade is held = by (frame_of page blade.cache.entries) refl (lowered-changes page blade is).shape where
  by : (f : Option Frame) → frame_of page blade.cache.entries ≡ f → IsPageCache (lowering page (frame_of page blade.cache.entries) blade).blade.cache → PagesAlone flat blade (lowering page f blade)
  by None e shape = record { plan = refl; harts = refl; silent = refl; shape = is; held = held }
  by (Some frame) e shape = alone-with flat blade (with_change lowered_frame page blade.cache.entries) _ _ refl (subst (λ f. IsPageCache (lowering page f blade).blade.cache) e shape)
      (λ q other is_held. less q other (same_page q page) refl (sym (found-with_change lowered_frame page frame blade.cache.entries e q) ∙ is_held)) where
        less : (q : PageView) (other : Frame) (b : Bool) → same_page q page ≡ b → (if b then Some (lowered_frame frame) else frame_of q blade.cache.entries) ≡ Some other → other.image ≡ flat q
        less q other true s found = ap (λ (f : Frame). f.image) (sym (same_Some _ _ found)) ∙ held page frame e ∙ ap flat (sym (same_page-true q page s))
        less q other false s found = held q other found

-- one page after another
each-alone : (flat : PageView → PageImageView) (change : PageView → BladeView → BladeEffect)
    → ((page : PageView) (blade : BladeView) → IsPageCache blade.cache → AreHeld blade.cache.entries flat → PagesAlone flat blade (change page blade))
    → (pages : List PageView) (blade : BladeView) → IsPageCache blade.cache → AreHeld blade.cache.entries flat → PagesAlone flat blade (each_in change pages blade)
each-alone flat change one [] blade is held = record { plan = refl; harts = refl; silent = refl; shape = is; held = held }
each-alone flat change one (page ∷ pages) blade is held =
    let first = one page blade is held in
    let more = each-alone flat change one pages (change page blade).blade first.shape first.held in
    record {
      plan = more.plan ∙ first.plan;
      harts = more.harts ∙ first.harts;
      silent = silent-more (change page blade).noted (each_in change pages (change page blade).blade).noted first.silent more.silent;
      shape = more.shape;
      held = more.held;
    }

acknowledging-alone : (flat : PageView → PageImageView) (change : PageView → BladeView → BladeEffect) (pages : List PageView) (number : ℕ) (asked : Option PageView) (blade : BladeView)
    → PagesAlone flat blade (each_in change pages blade) → PagesAlone flat blade (acknowledging change pages number asked blade)
acknowledging-alone flat change pages number asked blade alone = record {
  plan = alone.plan;
  harts = alone.harts;
  silent = silent-more (each_in change pages blade).noted [] alone.silent refl;
  shape = alone.shape;
  held = alone.held;
}

-- a range is given up, and lowered
pub invalidate-alone : (images : List Image) (flat : PageView → PageImageView) (number : ℕ) (range : RangeView) (asked : Option PageView) (blade : BladeView) → IsPageCache blade.cache → AreHeld blade.cache.entries flat
    → PagesAlone flat blade (after_message images (Inv number range asked) blade)
invalidate-alone images flat number range asked blade is held =
    acknowledging-alone flat given_up (held_in range blade) number asked blade (each-alone flat given_up (given_up-alone flat) (held_in range blade) blade is held)

pub lower-alone : (images : List Image) (flat : PageView → PageImageView) (number : ℕ) (range : RangeView) (asked : PageView) (blade : BladeView) → IsPageCache blade.cache → AreHeld blade.cache.entries flat
    → PagesAlone flat blade (after_message images (Lower number range asked) blade)
lower-alone images flat number range asked blade is held =
    acknowledging-alone flat lowered (writable_in range blade) number (Some asked) blade (each-alone flat lowered (lowered-alone flat) (writable_in range blade) blade is held)

-- ---- a page that is evicted

-- the pages of a blade of a coherent rack hold their newest images
pub blade-held : (rack : RackView) (flat : PageView → PageImageView) → AreFrames (seen rack flat) → (c : ℕ) (blade : BladeView) → slice_get rack.blades c ≡ Some blade
    → AreHeld blade.cache.entries flat
blade-held rack flat frames c blade there page frame e =
    (frames c page frame (ap (option_and_then (λ blade. frame_of page blade.cache.entries)) there ∙ e)).newest

pub evict-goes : (images : List Image) (setup : Setup) (c : ℕ) (page : PageView) (old new : RackView) (noted : List Note) (flat : PageView → PageImageView) (m : State) → IsCoherent (seen old flat)
    → GoesWith images setup old flat m → Leads images (Evict c page) old new noted → AreCounted new → GoesOn images setup m noted new
evict-goes images setup c page old new noted flat m coherent goes given counted =
    let led = evict_leads images c page old new noted flat coherent goes.sound given in
    let d = did c (λ blade. Some (given_up page blade)) old new noted given in
    let alone = subst (PagesAlone flat d.blade) (same_Some _ _ d.does)
    (given_up-alone flat page d.blade (goes.sound c d.blade d.there).cache (blade-held old flat goes.frames c d.blade d.there)) in
    record {
      flat = led.leads.flat;
      coherent = run_keeps (seen old flat) (seen new led.leads.flat) led.leads.moves coherent led.leads.run;
      sound = led.leads.sound;
      machine = acts-run images setup old new noted flat led.leads.flat m c d.blade d.effect d.there d.acts led.newest counted (pages-run images setup old flat m goes c d.blade d.there d.effect alone);
    }
