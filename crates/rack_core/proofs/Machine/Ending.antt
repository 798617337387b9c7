-- A request of a blade ends, and what waited for it goes on: it leads the machine on where its answer does.
use Rattle.std.proofs.Common.{◌≡◌, ℕ, ◌∙◌, ap, sym, refl, subst, List, [], slice_get, slice_set, Some}
use Rattle.mind_base.specs.Page.{PageView}
use Rattle.mind_base.specs.declared.images.Image.{Image}
use Rattle.page_cache.specs.PageCache.{IsPageCache}
use Rattle.page_image.specs.PageImage.{PageImageView}
use Rattle.protect_table.specs.Protect.{permission_at}
use Rattle.compute_blade.specs.Blade.{HartView, BladeView, BladeEffect, with_frames, request_for, requests_without}
use Rattle.compute_blade.specs.Messages.{awake, need_asked, resumed_for, resumed_by}
use Rattle.compute_blade.specs.declared.kept.Answer.{Answer}
use Rattle.compute_blade.specs.declared.kept.Asked.{Asked}
use Rattle.coherence.specs.Facts.{AreFrames}
use Rattle.tso_machine.specs.State.{Setup, State}
use Rattle.rack_core.specs.BladeMoves.{with_seen_blade, IsSoundBlade, IsRequest}
use Rattle.rack_core.specs.Events.{BladeActs}
use Rattle.rack_core.specs.Rack.{RackView, with_blade_at}
use Rattle.rack_core.specs.Seen.{seen}
use Rattle.rack_core.specs.Stands.{IsHartAt}
use Rattle.rack_core.specs.StandLog.{AreHartsPlaced}
use Rattle.rack_core.specs.StandRuns.{GoesWith, BladeBecame}
use Rattle.rack_core.proofs.Moves.Blade.Fills.{ends-by, awaking, resumed-is, awaking-sound}
use Rattle.rack_core.proofs.Moves.Blade.Handed.{still_sound}
use Rattle.rack_core.proofs.Moves.Blade.Seen.{seen-acted}
use Rattle.rack_core.proofs.Moves.Blade.Sound.{hart_in-set, of_found}
use Rattle.rack_core.proofs.Lists.Lookups.{slice_get-set}
use Rattle.rack_core.proofs.Machine.Blades.{Runs}
use Rattle.rack_core.proofs.Machine.Events.{became}
use Rattle.rack_core.proofs.Machine.Harts.{Entries}
use Rattle.rack_core.proofs.Machine.Mids.{mid-goes, mid-became}

-- In each rack that goes with the machine's state, where the blade has these pages and what is permitted is as it was,
-- what waited for the request leads the machine on.
abbrev pub Resumes : Answer → List Image → Setup → RackView → (PageView → PageImageView) → State → Entries → Asked → Type 0
Resumes answer images setup old flat m entries asked = (mid : RackView) → permission_at mid.switch.protect ≡ permission_at old.switch.protect → AreFrames (seen mid flat) → GoesWith images setup mid flat m
    → (hart : HartView) (at : IsHartAt mid asked.hart hart) → at.blade.cache.entries ≡ entries
    → Runs images setup mid flat m at.plan.blade (resumed_by asked.waits answer (need_asked asked) images asked.hart at.plan at.blade hart)

-- Between the end of the request and what waited for it: the rack in which the blade has these pages and its hart waits no longer.
pub record Between (answer : Answer) (images : List Image) (setup : Setup) (old : RackView) (flat : PageView → PageImageView) (m : State) (c : ℕ) (blade : BladeView) (entries : Entries) (page : PageView)
    (asked : Asked) : Type 0 where
  pub mid : RackView
  pub perms : permission_at mid.switch.protect ≡ permission_at old.switch.protect
  pub frames : AreFrames (seen mid flat)
  pub goes : GoesWith images setup mid flat m
  pub hart : HartView
  pub at : IsHartAt mid asked.hart hart
  pub holds : at.blade.cache.entries ≡ entries
  pub here : at.plan.blade ≡ c
  pub became : BladeBecame c at.blade old mid
  pub goes_on : resumed_for answer images (request_for page blade.requests) (with_frames blade entries)
      ≡ resumed_by asked.waits answer (need_asked asked) images asked.hart at.plan at.blade hart

pub between : (answer : Answer) (images : List Image) (setup : Setup) (old : RackView) (flat : PageView → PageImageView) (m : State) → GoesWith images setup old flat m → AreHartsPlaced old
    → (c : ℕ) (blade : BladeView) → slice_get old.blades c ≡ Some blade → (entries : Entries) (page : PageView) (asked : Asked) → request_for page blade.requests ≡ Some asked → IsPageCache (with_frames blade entries).cache
    → AreFrames (with_seen_blade c (record (with_frames blade entries) { requests = requests_without page blade.requests }) [] flat (seen old flat))
    → Between answer images setup old flat m c blade entries page asked
unfolding awaking
between answer images setup old flat m goes placed c blade there entries page asked out cache frames =
    let sound = goes.sound c blade there in
    let after = with_frames blade entries in
    let found_it = of_found (IsRequest blade.plan.threads blade.harts) page blade.requests asked sound.requests out in
    let ends = ends-by blade asked asked.waits found_it.0 in
    let hart = ends.1 in
    let h = asked.hart in
    let next = awaking asked hart after in
    let mid = with_blade_at c next old in
    let act : BladeEffect = record { blade = next; sent = []; noted = [] } in
    let acts : BladeActs c act old mid [] = record { net = old.net; sent = refl; after = refl; notes = refl } in
    let frames_mid : AreFrames (seen mid flat) = subst AreFrames (sym (seen-acted c blade act old mid [] flat flat there acts))
    (subst (λ q. AreFrames (with_seen_blade c (record after { requests = requests_without q blade.requests }) [] flat (seen old flat))) (sym found_it.1) frames) in
    let after_sound : IsSoundBlade (permission_at old.switch.protect) after =
    record { cache = cache; apart = sound.apart; waiters = sound.waiters; requests = sound.requests; waiting = sound.waiting; stores = sound.stores } in
    let sounds = still_sound c blade act old mid [] there acts goes.sound
    (awaking-sound (permission_at old.switch.protect) after asked hart after_sound ends.3 (ap (λ q. request_for q blade.requests) found_it.1 ∙ out)) in
    let planned : slice_get old.plan.threads h ≡ Some ends.0 = ap (λ p. slice_get p.threads h) (sym (goes.one.blades c blade there)) ∙ ends.2 in
    let here : ends.0.blade ≡ c = placed c blade h hart ends.0 there ends.3 planned in
    let at : IsHartAt old h hart = record { plan = ends.0; blade = blade; thread = planned; there = ap (slice_get old.blades) here ∙ there; own = ends.3 } in
    let at_mid : IsHartAt mid h (awake asked.waits hart) = record {
      plan = ends.0;
      blade = next;
      thread = planned;
      there = ap (slice_get (slice_set old.blades c next)) here ∙ slice_get-set old.blades c blade next there;
      own = hart_in-set blade.harts h hart (awake asked.waits hart) ends.3;
    } in
    let went = became c act old mid [] acts in
    let on = mid-goes images setup old mid flat m goes h hart at asked.waits next (subst (λ k. BladeBecame k next old mid) (sym here) went) refl refl frames_mid sounds in
    record {
      mid = mid;
      perms = refl;
      frames = frames_mid;
      goes = on;
      hart = awake asked.waits hart;
      at = at_mid;
      holds = refl;
      here = here;
      became = went;
      goes_on = ap (λ a. resumed_for answer images a after) out ∙ resumed-is answer images asked after ends.0 hart (record { thread = ends.2; own = ends.3; request = found_it.0 });
    }

-- The request for a page ends when the blade has these pages, and what waited for it leads the machine on.
pub answers-run : (answer : Answer) (images : List Image) (setup : Setup) (old : RackView) (flat : PageView → PageImageView) (m : State) → GoesWith images setup old flat m → AreHartsPlaced old
    → (c : ℕ) (blade : BladeView) → slice_get old.blades c ≡ Some blade → (entries : Entries) (page : PageView) (asked : Asked) → request_for page blade.requests ≡ Some asked → IsPageCache (with_frames blade entries).cache
    → AreFrames (with_seen_blade c (record (with_frames blade entries) { requests = requests_without page blade.requests }) [] flat (seen old flat)) → Resumes answer images setup old flat m entries asked
    → Runs images setup old flat m c (resumed_for answer images (request_for page blade.requests) (with_frames blade entries))
answers-run answer images setup old flat m goes placed c blade there entries page asked out cache frames resumes new newer whole counted newest =
    let b = between answer images setup old flat m goes placed c blade there entries page asked out cache frames in
    let e : BladeEffect = resumed_for answer images (request_for page blade.requests) (with_frames blade entries) in
    let runs = resumes b.mid b.perms b.frames b.goes b.hart b.at b.holds in
    let does : Runs images setup b.mid flat m c e = subst (Runs images setup b.mid flat m c) (sym b.goes_on)
    (subst (λ k. Runs images setup b.mid flat m k (resumed_by asked.waits answer (need_asked asked) images asked.hart b.at.plan b.at.blade b.hart)) b.here runs) in
    does new newer (mid-became c b.at.blade e.blade old b.mid new b.became whole) counted newest
