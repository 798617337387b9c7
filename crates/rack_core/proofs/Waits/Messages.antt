-- What waits needs what it asked for still when a message came to the blade.
use Rattle.std.proofs.Common.{◌≡◌, ℕ, false, ap, sym, refl, subst, List, [], ◌∷◌, slice_get, Option, Some, None, ◌∙◌}
use Rattle.std.specs.Prelude.{IsSomeAnd}
use Rattle.mind_base.specs.Page.{PageView}
use Rattle.mind_base.specs.declared.commands.Perm.{Perm}
use Rattle.mind_base.specs.declared.images.Image.{Image}
use Rattle.mind_base.specs.declared.plans.ThreadPlan.{ThreadPlan}
use Rattle.hart_effect.specs.Deed.{found, drains_first}
use Rattle.page_cache.specs.PageCache.{IsPageCache, frame_of, same_page, without_page, with_change, lowered_frame, entries_after_put}
use Rattle.page_cache.specs.declared.frames.Frame.{Frame}
use Rattle.wire_msg.specs.declared.msgs.Msg.{Msg}
use Rattle.wire_msg.specs.declared.msgs.Msg.TheVariants.{Fill, Deny, Inv, Lower}
use Rattle.compute_blade.specs.Blade.{HartView, BladeView, BladeEffect, with_frames, request_for, requests_without}
use Rattle.compute_blade.specs.Denials.{denial_in}
use Rattle.compute_blade.specs.Messages.{MayComeToBlade, after_message, answered_by, awake, need_asked, resumed, resumed_by, resumed_for}
use Rattle.compute_blade.specs.Pages.{given_up, giving_up, lowered, lowering, each_in, held_in, writable_in}
use Rattle.compute_blade.specs.declared.kept.Answer.{Answer}
use Rattle.compute_blade.specs.declared.kept.Answer.TheVariants.{Filled, Denied}
use Rattle.compute_blade.specs.declared.kept.Asked.{Asked}
use Rattle.compute_blade.specs.declared.kept.Need.{Need}
use Rattle.compute_blade.specs.declared.kept.Waits.{Waits}
use Rattle.compute_blade.specs.declared.kept.Waits.TheVariants.{Step, Drain}
use Rattle.rack_core.specs.BladeMoves.{hart_in, IsRequest, IsSoundBlade}
use Rattle.rack_core.specs.Waits.{IsNeeded, IsNeededFor}
use Rattle.rack_core.proofs.Moves.Blade.Fills.{Ends, ends-by, awaking, awaking-sound, resumed-is, awake-awake, awake-queue}
use Rattle.rack_core.proofs.Moves.Blade.Sound.{hart_in-set, of_found, of_others}
use Rattle.rack_core.proofs.Moves.Blade.Waits.{IsAwake}
use Rattle.rack_core.proofs.Lists.Lookups.{Entries, cache-without, cache-with_change, cache-put}
use Rattle.rack_core.proofs.Waits.Frames.{ServesLess, less-same, less-without, less-lowered, less-put}
use Rattle.rack_core.proofs.Waits.Harts.{Stays, goes_on, pages_change, for_all, queues_set, queue_kept}
use Rattle.rack_core.proofs.Waits.Steps.{IsFirm, performs, refuses, drains_by}
use Rattle.rack_core.proofs.Moves.Blade.Resuming.{resumes-as}

pub firm : (perms : PageView → Perm) (blade : BladeView) → IsSoundBlade perms blade → IsFirm blade
firm perms blade sound = record { cache = sound.cache; requests = sound.requests }

-- ---- pages

-- what is firm and needs what it asked for
record Fits (images : List Image) (blade : BladeView) : Type 0 where
  firm : IsFirm blade
  needed : IsNeeded images blade

-- the pages alone change, and no more is served
pages-fit : (images : List Image) (blade : BladeView) (entries : Entries) → ((page : PageView) → ServesLess page blade.cache.entries entries) → IsPageCache (with_frames blade entries).cache
    → Fits images blade → Fits images (with_frames blade entries)
pages-fit images blade entries less shape fits = record {
  firm = record { cache = shape; requests = fits.firm.requests };
  needed = record {
    requests = pages_change images blade.plan.threads blade.harts blade.cache.entries entries blade.requests
        (for_all (λ asked. ServesLess asked.page blade.cache.entries entries) (λ asked. less asked.page) blade.requests) fits.needed.requests;
    queues = fits.needed.queues;
  };
}

gives : (images : List Image) (page : PageView) (blade : BladeView) → Fits images blade → Fits images (given_up page blade).blade
gives images page blade fits = by (frame_of page blade.cache.entries) where
  by : (o : Option Frame) → Fits images (giving_up page o blade).blade
  by None = fits
  by (Some frame) = pages-fit images blade (without_page page blade.cache.entries) (less-without page blade.cache.entries fits.firm.cache.distinct) (cache-without page blade.cache fits.firm.cache) fits

lowers : (images : List Image) (page : PageView) (blade : BladeView) → Fits images blade → Fits images (lowered page blade).blade
lowers images page blade fits = by (frame_of page blade.cache.entries) where
  by : (o : Option Frame) → Fits images (lowering page o blade).blade
  by None = fits
  by (Some frame) = pages-fit images blade (with_change lowered_frame page blade.cache.entries) (less-lowered page blade.cache.entries) (cache-with_change lowered_frame page blade.cache fits.firm.cache) fits

each : (images : List Image) (change : PageView → BladeView → BladeEffect) → ((page : PageView) (blade : BladeView) → Fits images blade → Fits images (change page blade).blade)
    → (pages : List PageView) (blade : BladeView) → Fits images blade → Fits images (each_in change pages blade).blade
each images change one [] blade fits = fits
each images change one (page ∷ pages) blade fits = each images change one pages (change page blade).blade (one page blade fits)

pub evict_keeps : (images : List Image) (page : PageView) (blade : BladeView) → IsFirm blade → IsNeeded images blade → IsNeeded images (given_up page blade).blade
evict_keeps images page blade firm needed = (gives images page blade (record { firm = firm; needed = needed })).needed

-- ---- the answer to a request

stays-awake : (waits : Waits) (hart : HartView) → Stays hart (awake waits hart)
stays-awake Step hart = record { regs = refl; end = refl; ready = λ found e. e }
stays-awake Drain hart = record { regs = refl; end = refl; ready = λ found e. e }

-- a request ends, where the pages are held no more than they were, but for its own page
wakes : (images : List Image) (blade : BladeView) (entries : Entries) (asked : Asked) (hart : HartView) → IsFirm blade → hart_in blade.harts asked.hart ≡ Some hart
    → ((page : PageView) → same_page asked.page page ≡ false → ServesLess page blade.cache.entries entries)
    → IsNeeded images blade → IsNeeded images (awaking asked hart (with_frames blade entries))
unfolding awaking
wakes images blade entries asked hart firm own less is = record {
  requests = goes_on images blade.plan.threads blade.harts asked.hart hart (awake asked.waits hart) entries entries own (λ s. stays-awake asked.waits hart) left
      (for_all (λ other. ServesLess other.page entries entries) (λ other. less-same other.page entries) left)
      (of_others (IsRequest blade.plan.threads blade.harts) (IsRequest blade.plan.threads blade.harts) asked.page (λ other away r. r) blade.requests firm.requests)
      (of_others (IsNeededFor images blade.plan.threads blade.harts blade.cache.entries) (IsNeededFor images blade.plan.threads blade.harts entries) asked.page
      (λ other away n. (pages_change images blade.plan.threads blade.harts blade.cache.entries entries (other ∷ []) (less other.page away, tt) (n, tt)).0) blade.requests is.requests);
  queues = queues_set blade.plan.threads blade.harts asked.hart hart (awake asked.waits hart) own (queue_kept hart (awake asked.waits hart) (awake-queue asked.waits hart)) is.queues;
} where
  left : List Asked
  left = requests_without asked.page blade.requests

-- what waited goes on
resumes : (answer : Answer) (images : List Image) (blade : BladeView) (h : ℕ) (plan : ThreadPlan) (asked : Need) (waits : Waits) (hart : HartView) → IsFirm blade
    → slice_get blade.plan.threads h ≡ Some plan → hart_in blade.harts h ≡ Some hart → IsAwake waits hart → IsNeeded images blade
    → IsNeeded images (resumed_by waits answer asked images h plan blade hart).blade
resumes answer images blade h plan asked Drain hart firm planned own free is = drains_by images blade h plan hart firm planned own is
resumes answer images blade h plan asked Step hart firm planned own free is =
    resumes-as (λ e. IsNeeded images e.blade) answer asked images h plan blade hart is (λ image pc code runs just ready. does image pc ready answer)
  where
    does : (image : Image) (pc : ℕ) → drains_first (found image hart.regs pc) hart.queue.stores hart.queue.capacity ≡ false → (answer : Answer)
        → IsNeeded images (answered_by answer h plan (found image hart.regs pc) pc blade hart).blade
    does image pc ready Filled = performs images blade h plan (found image hart.regs pc) pc hart firm own free ready is
    does image pc ready Denied = refuses images blade h pc hart firm own free is (denial_in (found image hart.regs pc))

-- the request for a page ends, and what waited for it goes on
answers : (answer : Answer) (images : List Image) (perms : PageView → Perm) (blade : BladeView) (entries : Entries) (page : PageView) (asked : Asked)
    → IsSoundBlade perms blade → IsSoundBlade perms (with_frames blade entries) → request_for page blade.requests ≡ Some asked
    → ((other : PageView) → same_page page other ≡ false → ServesLess other blade.cache.entries entries)
    → IsNeeded images blade → IsNeeded images (resumed answer images asked (with_frames blade entries)).blade
unfolding awaking
answers answer images perms blade entries page asked sound after out less is =
    let found_it = of_found (IsRequest blade.plan.threads blade.harts) page blade.requests asked sound.requests out in
    let ends = ends-by blade asked asked.waits found_it.0 in
    let plan = ends.0 in
    let hart = ends.1 in
    let mid : BladeView = with_frames blade entries in
    let e : Ends mid asked plan hart = record { thread = ends.2; own = ends.3; request = found_it.0 } in
    let same : request_for asked.page blade.requests ≡ Some asked = ap (λ q. request_for q blade.requests) found_it.1 ∙ out in
    let woken = wakes images blade entries asked hart (firm perms blade sound) ends.3 (λ other away. less other (ap (λ q. same_page q other) (sym found_it.1) ∙ away)) is in
    let sound_woken = awaking-sound perms mid asked hart after ends.3 same in
    subst (λ (x : BladeEffect). IsNeeded images x.blade) (sym (resumed-is answer images asked mid plan hart e))
    (resumes answer images (awaking asked hart mid) asked.hart plan (need_asked asked) asked.waits (awake asked.waits hart) (firm perms (awaking asked hart mid) sound_woken)
    ends.2 (hart_in-set blade.harts asked.hart hart (awake asked.waits hart) ends.3) (awake-awake asked.waits hart) woken)

-- the request that a message answers is out
pub out_for : (P : Asked → Type 0) (o : Option Asked) → IsSomeAnd o P → (asked : Asked) × (o ≡ Some asked)
out_for P None some = absurd some
out_for P (Some asked) some = (asked, refl)

pub message_keeps : (images : List Image) (perms : PageView → Perm) (blade : BladeView) (message : Msg) → IsSoundBlade perms blade → MayComeToBlade blade message → IsNeeded images blade
    → IsNeeded images (after_message images message blade).blade
message_keeps images perms blade (Fill page perm writable image) sound may is =
    let frame : Frame = record { image = image; writable = writable; dirty = false; perm = perm } in
    let entries = entries_after_put blade.cache page frame in
    let out = out_for _ (request_for page blade.requests) may in
    let after : IsSoundBlade perms (with_frames blade entries) = record {
      cache = cache-put blade.cache page frame sound.cache;
      apart = sound.apart;
      waiters = sound.waiters;
      requests = sound.requests;
      waiting = sound.waiting;
      stores = sound.stores;
    } in
    subst (λ o. IsNeeded images (resumed_for Filled images o (with_frames blade entries)).blade) (sym out.1)
    (answers Filled images perms blade entries page out.0 sound after out.1 (less-put blade.cache page frame sound.cache) is)
message_keeps images perms blade (Deny page) sound may is =
    let out = out_for _ (request_for page blade.requests) may in
    subst (λ o. IsNeeded images (resumed_for Denied images o blade).blade) (sym out.1)
    (answers Denied images perms blade blade.cache.entries page out.0 sound sound out.1 (λ other away. less-same other blade.cache.entries) is)
message_keeps images perms blade (Inv number range asked) sound may is =
    (each images given_up (gives images) (held_in range blade) blade (record { firm = firm perms blade sound; needed = is })).needed
message_keeps images perms blade (Lower number range asked) sound may is =
    (each images lowered (lowers images) (writable_in range blade) blade (record { firm = firm perms blade sound; needed = is })).needed
message_keeps images perms blade message sound may is = absurd may
