-- A step and a drain of a blade's hart are moves.
use Rattle.std.proofs.Common.{◌≡◌, ℕ, ◌%◌, Bool, true, false, not, ◌||◌, ap, sym, refl, subst, List, [], ◌∷◌, ◌++◌, slice_get, slice_set, Option, Some, None, ◌∙◌, option_map}
use Rattle.std.specs.Prelude.{if◌then◌else◌, option_and_then}
use Rattle.std.proofs.lemmas.Option.{same_Some}
use Rattle.mind_base.specs.Page.{PageView}
use Rattle.mind_base.specs.Pending.{PendingView}
use Rattle.mind_base.specs.declared.commands.Perm.{Perm}
use Rattle.mind_base.specs.declared.ends.End.{End}
use Rattle.mind_base.specs.declared.ends.End.TheVariants.{Running, Exit, Fault}
use Rattle.mind_base.specs.declared.images.Image.{Image}
use Rattle.mind_base.specs.declared.plans.ThreadPlan.{ThreadPlan}
use Rattle.hart_effect.specs.Access.{Around}
use Rattle.hart_effect.specs.Deed.{Deed, Alone, Storing, found, carried_out, drains_first}
use Rattle.mind_base.specs.Place.{place_of, page_at}
use Rattle.mind_base.specs.Permission.{may_write}
use Rattle.hart_effect.specs.Thread.{Thread}
use Rattle.hart_effect.specs.declared.finds.Found.{Found}
use Rattle.page_cache.specs.PageCache.{IsPageCache, same_page, frame_of, written_frame, is_writable}
use Rattle.page_cache.specs.declared.frames.Frame.{Frame}
use Rattle.page_image.specs.PageImage.{PageImageView, image_after}
use Rattle.wire_msg.specs.declared.msgs.Msg.{Msg}
use Rattle.compute_blade.specs.Blade.{HartView, BladeView, BladeEffect, hart_of, with_hart, with_frames, is_asked, request_for, only}
use Rattle.compute_blade.specs.Frames.{perm_in, around_held, thread_of}
use Rattle.compute_blade.specs.Harts.{holding}
use Rattle.compute_blade.specs.Steps.{need_in, serves, writes_at_once, frames_with, frames_after, hart_after, performed_by, performed_in, performed, next_tag, one_more_store, waiting, asking, drained, draining_by, drain_of, stepping_at, stepping_by, step_at, for_hart, after_step, blade_after_drain}
use Rattle.compute_blade.specs.declared.kept.Asked.{Asked}
use Rattle.compute_blade.specs.declared.kept.Need.{Need}
use Rattle.compute_blade.specs.declared.kept.Waits.{Waits}
use Rattle.compute_blade.specs.declared.kept.Waits.TheVariants.{Step, Drain}
use Rattle.coherence.specs.Facts.{IsCoherent}
use Rattle.coherence.specs.World.{World, put_page}
use Rattle.rack_core.specs.BladeMoves.{HasBlade, LeadsTo, IsRequest, IsSoundBlade, DoesMoves, MayWriteAll, AreWaitersApart, AreWaiting}
use Rattle.rack_core.proofs.Moves.Blade.Worlds.{stays}
use Rattle.rack_core.proofs.Moves.Blade.Acts.{asks, stores, uses}
use Rattle.rack_core.proofs.Moves.Blade.Deeds.{buffer_of, Allowed, Grows, grows, storing}
use Rattle.rack_core.proofs.Moves.Blade.Waits.{IsAwake, apart-more, waiters-more, waiting-kept, waiting-asked}
use Rattle.rack_core.proofs.Moves.Blade.Sound.{Continues, HasOldest, goes_on, hart_in-set, allowed-hart, allowed-more}
use Rattle.rack_core.proofs.Lists.Lookups.{Entries, unasked, found-with_first, found-used, cache-with_first}
use Rattle.rack_core.proofs.Lists.Parts.{all-last}

-- what a blade's harts are plays no part in a world
pub of_harts : (w other : World) (c : ℕ) (blade : BladeView) (sent : List Msg) (flat : PageView → PageImageView) (h : ℕ) (hart : HartView) → LeadsTo w other c blade sent flat → LeadsTo w other c (with_hart h hart blade) sent flat
of_harts w other c blade sent flat h hart l = record { moves = l.moves; run = l.run }

-- nothing is done
pub idle : (w : World) (c : ℕ) (blade : BladeView) → HasBlade c blade w → IsSoundBlade w.perms blade → DoesMoves w w c (only blade)
idle w c blade has sound = record { flat = w.flat; leads = stays c blade w has; kept = λ page e. refl; sound = sound }

-- a hart goes on, and the pages change
pub sound-hart : (perms : PageView → Perm) (blade : BladeView) (h : ℕ) (hart new : HartView) (entries : Entries) → IsSoundBlade perms blade → hart_of blade h ≡ Some hart
    → Continues hart new → new.stepping ≡ hart.stepping → new.draining ≡ hart.draining
    → ((plan : ThreadPlan) → slice_get blade.plan.threads h ≡ Some plan → MayWriteAll perms plan.domain hart.queue.stores → MayWriteAll perms plan.domain new.queue.stores)
    → IsPageCache (holding blade.cache entries) → IsSoundBlade perms (with_hart h new (with_frames blade entries))
sound-hart perms blade h hart new entries sound own goes steps drains allowed shape = record {
  cache = shape;
  apart = sound.apart;
  waiters = sound.waiters;
  waiting = waiting-kept blade.harts h hart new blade.requests own steps drains sound.waiting;
  requests = goes_on blade.plan.threads blade.harts h hart new own goes blade.requests sound.requests;
  stores = allowed-hart perms blade.plan.threads blade.harts h hart new own sound.stores allowed;
}

-- ---- a store takes effect

-- a page that is held to be written
unfoldable pub HoldsToWrite : Entries → PageView → Type 0
HoldsToWrite entries page = (frame : Frame) × (frame_of page entries ≡ Some frame) × (frame.writable ≡ true)

-- moves to a blade with these pages, by which the newest image changes of no page but one that is held
record Effects (w : World) (c : ℕ) (blade : BladeView) (entries : Entries) : Type 0 where
  flat : PageView → PageImageView
  leads : LeadsTo w w c (with_frames blade entries) [] flat
  kept : (page : PageView) → frame_of page entries ≡ None → flat page ≡ w.flat page

-- a page that is not held is not the one that changed
not_changed : (page : PageView) (frame : Frame) (image : PageImageView) (flat : PageView → PageImageView) (entries new : Entries)
    → ((other : PageView) → frame_of other new ≡ (if same_page other page then Some frame else frame_of other entries))
    → (other : PageView) → frame_of other new ≡ None → put_page page image flat other ≡ flat other
not_changed page frame image flat entries new found other e = by (same_page other page) (sym (found other) ∙ e) where
  by : (b : Bool) → (if b then Some frame else frame_of other entries) ≡ None → (if b then image else flat other) ≡ flat other
  by true n = let never : ⊥ = cc in absurd never
  by false n = refl

effect-leads : (w : World) (c : ℕ) (blade : BladeView) (domain tag : ℕ) (store : PendingView) → HasBlade c blade w → IsPageCache blade.cache
    → HoldsToWrite blade.cache.entries (page_at (place_of domain store.address)) → Effects w c blade (frames_with domain store tag blade.cache.entries)
unfolding HoldsToWrite
effect-leads w c blade domain tag store has is held =
    let page = page_at (place_of domain store.address) in
    let offset = (place_of domain store.address).address % 4096 in
    let image = image_after held.0.image offset store.size store.value tag in
    let entries = frames_with domain store tag blade.cache.entries in
    let found = found-with_first (written_frame offset store.size store.value tag) page held.0 blade.cache.entries is.distinct held.1 in
    record {
      flat = put_page page image w.flat;
      leads = stores c blade w page held.0 image entries has held.1 held.2 found;
      kept = not_changed page (written_frame offset store.size store.value tag held.0) image w.flat blade.cache.entries entries found;
    }

effect-shape : (blade : BladeView) (domain tag : ℕ) (store : PendingView) → IsPageCache blade.cache → IsPageCache (holding blade.cache (frames_with domain store tag blade.cache.entries))
effect-shape blade domain tag store is =
    cache-with_first (written_frame ((place_of domain store.address).address % 4096) store.size store.value tag) (page_at (place_of domain store.address)) blade.cache is

-- ---- an instruction is performed

-- the oldest store of a queue that grew
oldest-grown : (around : Around) (old new : List PendingView) → Grows around old new → (oldest : PendingView) → HasOldest oldest old → HasOldest oldest new
oldest-grown around old new grown oldest has = (has.0 ++ grown.rest, grown.split ∙ ap (λ q. q ++ grown.rest) has.1)

-- a hart whose step does not wait, when its instruction was performed
performed-goes : (around : Around) (hart new : HartView) → hart.stepping ≡ false → new.draining ≡ hart.draining → Grows around hart.queue.stores new.queue.stores → Continues hart new
performed-goes around hart new awake same grown = record {
  steps = λ e. let never : ⊥ = cc in absurd never;
  drains = λ e. (same ∙ e, oldest-grown around hart.queue.stores new.queue.stores grown);
}

-- what the hart finds allowed is allowed
abbrev pub FindsAllowed : Around → (PageView → Perm) → Type 0
FindsAllowed around perms = (page : PageView) → may_write (around.perm page) ≡ true → may_write (perms page) ≡ true

performed-allowed : (around : Around) (perms : PageView → Perm) (domain : ℕ) (old new : List PendingView) → around.domain ≡ domain → FindsAllowed around perms → Grows around old new
    → MayWriteAll perms domain old → MayWriteAll perms domain new
performed-allowed around perms domain old new same finds grown all =
    subst (MayWriteAll perms domain) (sym grown.split) (allowed-more perms domain old grown.rest all
    (subst (λ d. MayWriteAll perms d grown.rest) same (each grown.rest grown.allowed)))
  where
    each : (stores : List PendingView) → Allowed around stores → MayWriteAll perms around.domain stores
    each [] a = tt
    each (store ∷ stores) a = (finds (page_at (place_of around.domain store.address)) a.0, each stores a.1)

used-found : (need : Option Need) (entries : Entries) (end : End) (cache : Rattle.page_cache.specs.PageCache.CacheView) → IsPageCache (holding cache entries)
    → ((other : PageView) → frame_of other (frames_after need end entries) ≡ frame_of other entries) × IsPageCache (holding cache (frames_after need end entries))
used-found None entries (Running pc) cache is = (λ other. refl, is)
used-found (Some need) entries (Running pc) cache is = (found-used need.page entries is.distinct, cache-with_first (λ frame. frame) need.page (holding cache entries) is)
used-found need entries (Exit value) cache is = (λ other. refl, is)
used-found need entries (Fault kind value pc) cache is = (λ other. refl, is)

-- an instruction is performed by a hart whose step does not wait; where it stores at once, the page is held to be written
pub performs : (w : World) (c : ℕ) (blade : BladeView) (around : Around) (h : ℕ) (plan : ThreadPlan) (found : Found) (pc : ℕ) (hart : HartView)
    → HasBlade c blade w → IsSoundBlade w.perms blade → slice_get blade.plan.threads h ≡ Some plan → hart_of blade h ≡ Some hart → hart.stepping ≡ false
    → around.domain ≡ plan.domain → FindsAllowed around w.perms
    → ((thread : Thread) (store : PendingView) → carried_out found around pc (thread_of blade.cache.entries hart) ≡ Some (Storing thread store)
    → HoldsToWrite blade.cache.entries (page_at (place_of plan.domain store.address)))
    → DoesMoves w w c (performed_in around h plan found pc blade hart)
unfolding buffer_of
performs w c blade around h plan found pc hart has sound thread_is own awake domain finds held = by (carried_out found around pc (thread_of blade.cache.entries hart)) refl where
  by : (deed : Option Deed) → carried_out found around pc (thread_of blade.cache.entries hart) ≡ deed → DoesMoves w w c (performed_by deed h plan found blade hart)
  by None e = idle w c blade has sound
  by (Some (Alone thread)) e =
      let used = used-found (need_in found plan.domain) blade.cache.entries thread.end blade.cache sound.cache in
      let entries = frames_after (need_in found plan.domain) thread.end blade.cache.entries in
      let new = hart_after plan.domain found blade.cache.entries hart (Alone thread) in
      let grown = grows found around pc (thread_of blade.cache.entries hart) (Alone thread) e in
      record {
        flat = w.flat;
        leads = of_harts w w c (with_frames blade entries) [] w.flat h new (stays c (with_frames blade entries) w (uses c blade w entries has used.0));
        kept = λ page e. refl;
        sound = sound-hart w.perms blade h hart new entries sound own (performed-goes around hart new awake refl grown) refl refl
            (λ other its. performed-allowed around w.perms other.domain hart.queue.stores new.queue.stores (domain ∙ ap (λ (p : ThreadPlan). p.domain) (same_Some _ _ (sym thread_is ∙ its))) finds grown) used.1;
      }
  by (Some (Storing thread store)) e =
      let entries = frames_with plan.domain store (next_tag h hart.stores) blade.cache.entries in
      let new = hart_after plan.domain found blade.cache.entries hart (Storing thread store) in
      let grown = grows found around pc (thread_of blade.cache.entries hart) (Storing thread store) e in
      let effects = effect-leads w c blade plan.domain (next_tag h hart.stores) store has sound.cache (held thread store e) in
      record {
        flat = effects.flat;
        leads = of_harts w w c (with_frames blade entries) [] effects.flat h new effects.leads;
        kept = effects.kept;
        sound = sound-hart w.perms blade h hart new entries sound own (performed-goes around hart new awake refl grown) refl refl
            (λ other its. performed-allowed around w.perms other.domain hart.queue.stores new.queue.stores (domain ∙ ap (λ (p : ThreadPlan). p.domain) (same_Some _ _ (sym thread_is ∙ its))) finds grown)
            (effect-shape blade plan.domain (next_tag h hart.stores) store sound.cache);
      }

-- ---- a page is asked for

asked-sound : (perms : PageView → Perm) (blade : BladeView) (h : ℕ) (hart new : HartView) (asked : Asked) → IsSoundBlade perms blade → hart_of blade h ≡ Some hart
    → Continues hart new → new.queue.stores ≡ hart.queue.stores → request_for asked.page blade.requests ≡ None
    → AreWaitersApart (blade.requests ++ asked ∷ [])
    → AreWaiting (slice_set blade.harts h (Some new)) (blade.requests ++ asked ∷ [])
    → IsRequest blade.plan.threads (slice_set blade.harts h (Some new)) asked
    → IsSoundBlade perms (with_hart h new (record blade { requests = blade.requests ++ asked ∷ [] }))
asked-sound perms blade h hart new asked sound own goes same free waiters waiting request = record {
  cache = sound.cache;
  apart = apart-more blade.requests asked sound.apart free;
  waiters = waiters;
  waiting = waiting;
  stores = allowed-hart perms blade.plan.threads blade.harts h hart new own sound.stores (λ plan thread all. subst (MayWriteAll perms plan.domain) (sym same) all);
  requests = all-last (IsRequest blade.plan.threads (slice_set blade.harts h (Some new))) blade.requests asked
      (goes_on blade.plan.threads blade.harts h hart new own goes blade.requests sound.requests) request;
}

same_queue : (waits : Waits) (hart : HartView) → (waiting waits hart).queue.stores ≡ hart.queue.stores
same_queue Step hart = refl
same_queue Drain hart = refl

pub asks_for : (w : World) (c : ℕ) (blade : BladeView) (h : ℕ) (waits : Waits) (need : Need) (hart : HartView)
    → HasBlade c blade w → IsSoundBlade w.perms blade → hart_of blade h ≡ Some hart → is_writable (frame_of need.page blade.cache.entries) ≡ false
    → IsAwake waits hart → Continues hart (waiting waits hart)
    → IsRequest blade.plan.threads (slice_set blade.harts h (Some (waiting waits hart))) (record { page = need.page; write = need.write; hart = h; waits = waits })
    → DoesMoves w w c (asking h waits need blade hart)
asks_for w c blade h waits need hart has sound own unwritable awake goes request = by (is_asked need.page blade.requests) refl where
  asked : Asked
  asked = record { page = need.page; write = need.write; hart = h; waits = waits }

  by : (b : Bool) → is_asked need.page blade.requests ≡ b → DoesMoves w w c (if b then only blade else record {
    blade = with_hart h (waiting waits hart) (record blade { requests = blade.requests ++ record { page = need.page; write = need.write; hart = h; waits = waits } ∷ [] });
    sent = Rattle.wire_msg.specs.declared.msgs.Msg.TheVariants.Get need.page need.write ∷ [];
    noted = [];
  })
  by true e = idle w c blade has sound
  by false e = record {
    flat = w.flat;
    kept = λ page e. refl;
    leads = of_harts w w c (record blade { requests = blade.requests ++ asked ∷ [] }) _ w.flat h (waiting waits hart) (asks c blade w asked has e unwritable);
    sound = asked-sound w.perms blade h hart (waiting waits hart) asked sound own goes (same_queue waits hart)
        (unasked need.page blade.requests e)
        (waiters-more blade.plan.threads blade.harts blade.requests asked hart own awake sound.requests sound.waiters)
        (waiting-asked blade.harts hart asked blade.requests own sound.waiting) request;
  }

-- ---- a drain

held-to-write : (entries : Entries) (page : PageView) → is_writable (frame_of page entries) ≡ true → HoldsToWrite entries page
unfolding HoldsToWrite
held-to-write entries page e = by (frame_of page entries) refl e where
  by : (f : Option Frame) → frame_of page entries ≡ f → is_writable f ≡ true → (frame : Frame) × (frame_of page entries ≡ Some frame) × (frame.writable ≡ true)
  by None f e = let never : ⊥ = cc in absurd never
  by (Some frame) f e = (frame, f, e)

-- a drain of a hart whose drain does not wait
pub drains : (w : World) (c : ℕ) (blade : BladeView) (h : ℕ) (plan : ThreadPlan) (queue : List PendingView) (hart : HartView)
    → HasBlade c blade w → IsSoundBlade w.perms blade → slice_get blade.plan.threads h ≡ Some plan → hart_of blade h ≡ Some hart → hart.draining ≡ false
    → hart.queue.stores ≡ queue → DoesMoves w w c (draining_by h plan queue blade hart)
drains w c blade h plan [] hart has sound thread own awake queue = idle w c blade has sound
drains w c blade h plan (oldest ∷ newer) hart has sound thread own awake queue = by (is_writable (frame_of page blade.cache.entries)) refl where
  page : PageView
  page = page_at (place_of plan.domain oldest.address)

  by : (b : Bool) → is_writable (frame_of (page_at (place_of plan.domain oldest.address)) blade.cache.entries) ≡ b
      → DoesMoves w w c (if b then drained h plan oldest newer blade hart else asking h Drain (record { page = page_at (place_of plan.domain oldest.address); write = true }) blade hart)
  by true e =
      let entries = frames_with plan.domain oldest (next_tag h hart.stores) blade.cache.entries in
      let new = one_more_store (record hart { queue = record hart.queue { stores = newer } }) in
      let effects = effect-leads w c blade plan.domain (next_tag h hart.stores) oldest has sound.cache (held-to-write blade.cache.entries page e) in
      record {
        flat = effects.flat;
        leads = of_harts w w c (with_frames blade entries) [] effects.flat h new effects.leads;
        kept = effects.kept;
        sound = sound-hart w.perms blade h hart new entries sound own (record { steps = λ s. s; drains = λ d. let never : ⊥ = cc in absurd never }) refl refl
            (λ other its all. (subst (MayWriteAll w.perms other.domain) queue all).1)
            (effect-shape blade plan.domain (next_tag h hart.stores) oldest sound.cache);
      }
  by false e = asks_for w c blade h Drain (record { page = page; write = true }) hart has sound own e awake
      (record { steps = λ s. s; drains = λ d. (refl, λ oldest q. q) })
      (record {
        plan = plan;
        hart = waiting Drain hart;
        oldest = oldest;
        newer = newer;
        thread = thread;
        own = hart_in-set blade.harts h hart (waiting Drain hart) own;
        waits = refl;
        queue = queue;
        page = refl;
        write = refl;
      })

drains_of : (w : World) (c : ℕ) (blade : BladeView) (h : ℕ) (plan : ThreadPlan) (hart : HartView)
    → HasBlade c blade w → IsSoundBlade w.perms blade → slice_get blade.plan.threads h ≡ Some plan → hart_of blade h ≡ Some hart
    → DoesMoves w w c (drain_of h plan blade hart)
drains_of w c blade h plan hart has sound thread own = by hart.draining refl where
  by : (b : Bool) → hart.draining ≡ b → DoesMoves w w c (if b then only blade else draining_by h plan hart.queue.stores blade hart)
  by true e = idle w c blade has sound
  by false e = drains w c blade h plan hart.queue.stores hart has sound thread own e refl

-- ---- a step

-- a page that serves an instruction which stores at once, where its domain may write, is held to be written
served : (entries : Entries) (page : PageView) (found : Found) → serves found (frame_of page entries) ≡ true → writes_at_once found ≡ true
    → may_write (perm_in (frame_of page entries)) ≡ true → HoldsToWrite entries page
unfolding HoldsToWrite
served entries page found s writes allowed = by (frame_of page entries) refl s allowed where
  which : (a b c : Bool) → (not a || b || not c) ≡ true → a ≡ true → c ≡ true → b ≡ true
  which a true c s x y = refl
  which true false true s x y = s
  which false false c s x y = x
  which true false false s x y = y

  by : (f : Option Frame) → frame_of page entries ≡ f → serves found f ≡ true → may_write (perm_in f) ≡ true
      → (frame : Frame) × (frame_of page entries ≡ Some frame) × (frame.writable ≡ true)
  by None e s allowed = let never : ⊥ = cc in absurd never
  by (Some frame) e s allowed = (frame, e, which (writes_at_once found) frame.writable (may_write frame.perm) s writes allowed)

unserved : (found : Found) (f : Option Frame) → serves found f ≡ false → is_writable f ≡ false
unserved found None e = refl
unserved found (Some frame) e = which (not (writes_at_once found)) frame.writable (not (may_write frame.perm)) e where
  which : (a b c : Bool) → (a || b || c) ≡ false → b ≡ false
  which a false c e = refl
  which true true c e = e
  which false true c e = e

-- the instruction of a hart that runs
record Stands (images : List Image) (blade : BladeView) (h : ℕ) (plan : ThreadPlan) (hart : HartView) (image : Image) (pc : ℕ) : Type 0 where
  thread : slice_get blade.plan.threads h ≡ Some plan
  own : hart_of blade h ≡ Some hart
  awake : hart.stepping ≡ false
  runs : hart.end ≡ Running pc
  code : slice_get images plan.image ≡ Some image

steps-need : (images : List Image) (w : World) (c : ℕ) (blade : BladeView) (h : ℕ) (plan : ThreadPlan) (hart : HartView) (image : Image) (pc : ℕ)
    → HasBlade c blade w → IsSoundBlade w.perms blade → FindsAllowed (around_held blade.cache.entries h plan.domain) w.perms → Stands images blade h plan hart image pc
    → (need : Option Need) → need_in (found image hart.regs pc) plan.domain ≡ need
    → DoesMoves w w c (stepping_at need h plan (found image hart.regs pc) pc blade hart)
steps-need images w c blade h plan hart image pc has sound finds stands None needs =
    performs w c blade (around_held blade.cache.entries h plan.domain) h plan (found image hart.regs pc) pc hart has sound stands.thread stands.own stands.awake refl finds
    (λ thread store e. let s = storing (found image hart.regs pc) (around_held blade.cache.entries h plan.domain) pc (thread_of blade.cache.entries hart) thread store e in
    let same = sym needs ∙ s.needs in let never : ⊥ = cc in absurd never)
steps-need images w c blade h plan hart image pc has sound finds stands (Some need) needs = by (serves (found image hart.regs pc) (frame_of need.page blade.cache.entries)) refl where
  by : (b : Bool) → serves (found image hart.regs pc) (frame_of need.page blade.cache.entries) ≡ b
      → DoesMoves w w c (if b then performed h plan (found image hart.regs pc) pc blade hart else asking h Step need blade hart)
  by true e = performs w c blade (around_held blade.cache.entries h plan.domain) h plan (found image hart.regs pc) pc hart has sound stands.thread stands.own stands.awake refl finds
      (λ thread store d.
      let s = storing (found image hart.regs pc) (around_held blade.cache.entries h plan.domain) pc (thread_of blade.cache.entries hart) thread store d in
      let page : need.page ≡ page_at (place_of plan.domain store.address) = ap (λ n. n.page) (same_Some _ _ (sym needs ∙ s.needs)) in
      served blade.cache.entries (page_at (place_of plan.domain store.address)) (found image hart.regs pc)
      (ap (λ q. serves (found image hart.regs pc) (frame_of q blade.cache.entries)) (sym page) ∙ e) s.writes s.allowed)
  by false e = asks_for w c blade h Step need hart has sound stands.own (unserved (found image hart.regs pc) (frame_of need.page blade.cache.entries) e) stands.awake
      (record { steps = λ s. refl; drains = λ d. (d, λ oldest q. q) })
      (record { plan = plan; hart = waiting Step hart; thread = stands.thread; own = hart_in-set blade.harts h hart (waiting Step hart) stands.own; waits = refl })

steps-by : (images : List Image) (w : World) (c : ℕ) (blade : BladeView) (h : ℕ) (plan : ThreadPlan) (hart : HartView) (image : Image) (pc : ℕ)
    → HasBlade c blade w → IsSoundBlade w.perms blade → FindsAllowed (around_held blade.cache.entries h plan.domain) w.perms → Stands images blade h plan hart image pc
    → DoesMoves w w c (stepping_by h plan (found image hart.regs pc) pc blade hart)
steps-by images w c blade h plan hart image pc has sound finds stands = by (drains_first (found image hart.regs pc) hart.queue.stores hart.queue.capacity) where
  by : (b : Bool) → DoesMoves w w c (if b then drain_of h plan blade hart else stepping_at (need_in (found image hart.regs pc) plan.domain) h plan (found image hart.regs pc) pc blade hart)
  by true = drains_of w c blade h plan hart has sound stands.thread stands.own
  by false = steps-need images w c blade h plan hart image pc has sound finds stands (need_in (found image hart.regs pc) plan.domain) refl

steps-at : (images : List Image) (w : World) (c : ℕ) (blade : BladeView) (h : ℕ) (plan : ThreadPlan) (hart : HartView) (image : Image)
    → HasBlade c blade w → IsSoundBlade w.perms blade → FindsAllowed (around_held blade.cache.entries h plan.domain) w.perms → slice_get blade.plan.threads h ≡ Some plan → hart_of blade h ≡ Some hart → slice_get images plan.image ≡ Some image
    → (end : End) → hart.end ≡ end → DoesMoves w w c (step_at end h plan image blade hart)
steps-at images w c blade h plan hart image has sound finds thread own code (Running pc) runs = by hart.stepping refl where
  by : (b : Bool) → hart.stepping ≡ b → DoesMoves w w c (if b then only blade else stepping_by h plan (found image hart.regs pc) pc blade hart)
  by true e = idle w c blade has sound
  by false e = steps-by images w c blade h plan hart image pc has sound finds (record { thread = thread; own = own; awake = e; runs = runs; code = code })
steps-at images w c blade h plan hart image has sound finds thread own code (Exit value) runs = idle w c blade has sound
steps-at images w c blade h plan hart image has sound finds thread own code (Fault kind value pc) runs = idle w c blade has sound

-- ---- the calls

-- what a blade's hart does is done with its plan
pub record OfHart (blade : BladeView) (h : ℕ) (act : ThreadPlan → HartView → Option BladeEffect) (e : BladeEffect) : Type 0 where
  pub plan : ThreadPlan
  pub hart : HartView
  pub thread : slice_get blade.plan.threads h ≡ Some plan
  pub own : hart_of blade h ≡ Some hart
  pub does : act plan hart ≡ Some e

pub for_hart-some : (blade : BladeView) (h : ℕ) (act : ThreadPlan → HartView → Option BladeEffect) (e : BladeEffect) → for_hart blade h act ≡ Some e → OfHart blade h act e
for_hart-some blade h act e given = by (slice_get blade.plan.threads h) refl (hart_of blade h) refl given where
  by : (p : Option ThreadPlan) → slice_get blade.plan.threads h ≡ p → (x : Option HartView) → hart_of blade h ≡ x
      → option_and_then (λ plan. option_and_then (λ hart. act plan hart) x) p ≡ Some e → OfHart blade h act e
  by None t x o d = let never : ⊥ = cc in absurd never
  by (Some plan) t None o d = let never : ⊥ = cc in absurd never
  by (Some plan) t (Some hart) o d = record { plan = plan; hart = hart; thread = t; own = o; does = d }

-- a page that is held came with the permission of its domain
pub finds_allowed : (w : World) (c : ℕ) (blade : BladeView) (h domain : ℕ) → IsCoherent w → HasBlade c blade w → FindsAllowed (around_held blade.cache.entries h domain) w.perms
finds_allowed w c blade h domain coherent has page = by (frame_of page blade.cache.entries) refl where
  by : (f : Option Frame) → frame_of page blade.cache.entries ≡ f → may_write (perm_in f) ≡ true → may_write (w.perms page) ≡ true
  by None e allowed = let never : ⊥ = cc in absurd never
  by (Some frame) e allowed = ap may_write (sym (coherent.frames c page frame (has.frames page ∙ e)).perm) ∙ allowed

pub step : (images : List Image) (w : World) (c : ℕ) (blade : BladeView) (h : ℕ) (e : BladeEffect) → IsCoherent w → HasBlade c blade w → IsSoundBlade w.perms blade
    → after_step images h blade ≡ Some e → DoesMoves w w c e
step images w c blade h e coherent has sound given =
    let o = for_hart-some blade h (λ plan hart. option_map (λ image. step_at hart.end h plan image blade hart) (slice_get images plan.image)) e given in
    by o (slice_get images o.plan.image) refl o.does
  where
    by : (o : OfHart blade h (λ plan hart. option_map (λ image. step_at hart.end h plan image blade hart) (slice_get images plan.image)) e)
        → (code : Option Image) → slice_get images o.plan.image ≡ code → option_map (λ image. step_at o.hart.end h o.plan image blade o.hart) code ≡ Some e → DoesMoves w w c e
    by o None f d = let never : ⊥ = cc in absurd never
    by o (Some image) f d = subst (DoesMoves w w c) (same_Some _ _ d) (steps-at images w c blade h o.plan o.hart image has sound (finds_allowed w c blade h o.plan.domain coherent has) o.thread o.own f o.hart.end refl)

pub drain : (w : World) (c : ℕ) (blade : BladeView) (h : ℕ) (e : BladeEffect) → HasBlade c blade w → IsSoundBlade w.perms blade
    → blade_after_drain h blade ≡ Some e → DoesMoves w w c e
drain w c blade h e has sound given =
    let o = for_hart-some blade h (λ plan hart. Some (drain_of h plan blade hart)) e given in
    subst (DoesMoves w w c) (same_Some _ _ o.does) (drains_of w c blade h o.plan o.hart has sound o.thread o.own)
