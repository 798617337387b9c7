-- What waits needs what it asked for still when a hart of the blade stepped or drained.
use Rattle.std.proofs.Common.{◌≡◌, ◌≤◌, ℕ, Bool, true, false, ap, sym, refl, subst, List, [], ◌∷◌, ◌++◌, length, slice_get, slice_set, Option, Some, None, option_map, ◌∙◌, arith}
use Rattle.std.specs.Prelude.{if◌then◌else◌}
use Rattle.std.specs.List.{AllByRecursion}
use Rattle.std.proofs.lemmas.Bool.{false≢true}
use Rattle.std.proofs.lemmas.Option.{same_Some}
use Rattle.mind_base.specs.Page.{PageView}
use Rattle.mind_base.specs.Pending.{PendingView}
use Rattle.mind_base.specs.Place.{place_of, page_at}
use Rattle.mind_base.specs.declared.ends.End.{End}
use Rattle.mind_base.specs.declared.ends.End.TheVariants.{Running, Exit, Fault}
use Rattle.mind_base.specs.declared.images.Image.{Image}
use Rattle.mind_base.specs.declared.plans.ThreadPlan.{ThreadPlan}
use Rattle.hart_effect.specs.Deed.{Deed, Alone, Storing, found, carried_out, drains_first}
use Rattle.hart_effect.specs.declared.finds.Found.{Found}
use Rattle.page_cache.specs.PageCache.{IsPageCache, frame_of, is_writable}
use Rattle.wire_msg.specs.declared.msgs.Msg.TheVariants.{Get}
use Rattle.compute_blade.specs.Blade.{HartView, BladeView, BladeEffect, with_hart, with_frames, is_asked, only}
use Rattle.compute_blade.specs.Denials.{faulting, refused_by}
use Rattle.compute_blade.specs.Frames.{around_held, thread_of}
use Rattle.compute_blade.specs.Steps.{need_in, serves, frames_after_deed, hart_after, frames_with, performed, performed_by, next_tag, one_more_store, waiting, asking, drained, draining_by, drain_of, stepping_at, stepping_by, step_at, after_step, blade_after_drain}
use Rattle.compute_blade.specs.declared.kept.Asked.{Asked}
use Rattle.compute_blade.specs.declared.kept.Denial.{Denial}
use Rattle.compute_blade.specs.declared.kept.Need.{Need}
use Rattle.compute_blade.specs.declared.kept.Waits.{Waits}
use Rattle.compute_blade.specs.declared.kept.Waits.TheVariants.{Step, Drain}
use Rattle.rack_core.specs.BladeMoves.{hart_in, IsRequest}
use Rattle.rack_core.specs.Waits.{IsNeeded, IsNeededBy, IsNeededFor, IsQueueOf}
use Rattle.rack_core.proofs.Moves.Blade.Deeds.{buffer_of}
use Rattle.rack_core.proofs.Moves.Blade.Sound.{hart_in-set}
use Rattle.rack_core.proofs.Moves.Blade.Steps.{OfHart, for_hart-some}
use Rattle.rack_core.proofs.Lists.Lookups.{Entries}
use Rattle.rack_core.proofs.Waits.Frames.{ServesLess, less-same, less-stored, less-done}
use Rattle.rack_core.proofs.Waits.Harts.{Stays, popped, goes_on, for_all, queues_set, queue_kept}
use Rattle.rack_core.proofs.Waits.Queues.{deed_fits}
use Rattle.rack_core.proofs.Lists.Parts.{all-last}

-- a cache, and requests of steps and drains that wait
pub record IsFirm (blade : BladeView) : Type 0 where
  pub cache : IsPageCache blade.cache
  pub requests : AllByRecursion (IsRequest blade.plan.threads blade.harts) blade.requests

-- ---- a hart whose step does not wait goes on

-- whatever becomes of it, and of the pages, where no more is served
free_goes : (images : List Image) (blade : BladeView) (h : ℕ) (old new : HartView) (entries : Entries) → IsFirm blade → hart_in blade.harts h ≡ Some old → old.stepping ≡ false
    → ((page : PageView) → ServesLess page blade.cache.entries entries) → ((thread : ThreadPlan) → IsQueueOf thread old.queue → IsQueueOf thread new.queue)
    → IsNeeded images blade → IsNeeded images (with_hart h new (with_frames blade entries))
free_goes images blade h old new entries firm own free less queue is = record {
  requests = goes_on images blade.plan.threads blade.harts h old new blade.cache.entries entries own (λ s. absurd (false≢true (sym free ∙ s))) blade.requests
      (for_all (λ asked. ServesLess asked.page blade.cache.entries entries) (λ asked. less asked.page) blade.requests) firm.requests is.requests;
  queues = queues_set blade.plan.threads blade.harts h old new own queue is.queues;
}

-- its instruction is performed, where no store must drain first
pub performs : (images : List Image) (blade : BladeView) (h : ℕ) (plan : ThreadPlan) (found : Found) (pc : ℕ) (hart : HartView) → IsFirm blade → hart_in blade.harts h ≡ Some hart → hart.stepping ≡ false
    → drains_first found hart.queue.stores hart.queue.capacity ≡ false → IsNeeded images blade → IsNeeded images (performed h plan found pc blade hart).blade
unfolding buffer_of
performs images blade h plan found pc hart firm own free ready is = by (carried_out found (around_held blade.cache.entries h plan.domain) pc (thread_of blade.cache.entries hart)) refl where
  less : (deed : Deed) (page : PageView) → ServesLess page blade.cache.entries (frames_after_deed h plan.domain found blade.cache.entries hart deed)
  less deed = less-done h plan.domain found hart blade.cache.entries firm.cache.distinct deed

  by : (o : Option Deed) → carried_out found (around_held blade.cache.entries h plan.domain) pc (thread_of blade.cache.entries hart) ≡ o → IsNeeded images (performed_by o h plan found blade hart).blade
  by None e = is
  by (Some (Alone thread)) e =
      free_goes images blade h hart (hart_after plan.domain found blade.cache.entries hart (Alone thread)) (frames_after_deed h plan.domain found blade.cache.entries hart (Alone thread)) firm own free (less (Alone thread))
      (λ t q. record { places = q.places; room = deed_fits found (around_held blade.cache.entries h plan.domain) pc hart.queue.capacity (thread_of blade.cache.entries hart) (Alone thread) q.room ready e }) is
  by (Some (Storing thread store)) e =
      free_goes images blade h hart (hart_after plan.domain found blade.cache.entries hart (Storing thread store)) (frames_after_deed h plan.domain found blade.cache.entries hart (Storing thread store)) firm own free (less (Storing thread store))
      (λ t q. record { places = q.places; room = deed_fits found (around_held blade.cache.entries h plan.domain) pc hart.queue.capacity (thread_of blade.cache.entries hart) (Storing thread store) q.room ready e }) is

-- its access is refused
pub refuses : (images : List Image) (blade : BladeView) (h pc : ℕ) (hart : HartView) → IsFirm blade → hart_in blade.harts h ≡ Some hart → hart.stepping ≡ false
    → IsNeeded images blade → (denial : Option Denial) → IsNeeded images (refused_by denial h pc blade hart).blade
refuses images blade h pc hart firm own free is None = is
refuses images blade h pc hart firm own free is (Some denial) =
    free_goes images blade h hart (faulting denial.kind denial.address pc hart) blade.cache.entries firm own free (λ page. less-same page blade.cache.entries)
    (queue_kept hart (faulting denial.kind denial.address pc hart) refl) is

-- ---- a page is asked for

waits-same : (waits : Waits) (hart : HartView) → Stays hart (waiting waits hart)
waits-same Step hart = record { regs = refl; end = refl; ready = λ found e. e }
waits-same Drain hart = record { regs = refl; end = refl; ready = λ found e. e }

waits-queue : (waits : Waits) (hart : HartView) → (waiting waits hart).queue ≡ hart.queue
waits-queue Step hart = refl
waits-queue Drain hart = refl

asks : (images : List Image) (blade : BladeView) (h : ℕ) (waits : Waits) (need : Need) (hart : HartView) → IsFirm blade → hart_in blade.harts h ≡ Some hart
    → IsNeededBy waits images blade.plan.threads (slice_set blade.harts h (Some (waiting waits hart))) blade.cache.entries (record { page = need.page; write = need.write; hart = h; waits = waits })
    → IsNeeded images blade → IsNeeded images (asking h waits need blade hart).blade
asks images blade h waits need hart firm own needs is = by (is_asked need.page blade.requests) where
  asked : Asked
  asked = record { page = need.page; write = need.write; hart = h; waits = waits }

  new : HartView
  new = waiting waits hart

  by : (b : Bool) → IsNeeded images (if b then only blade else record {
    blade = with_hart h (waiting waits hart) (record blade { requests = blade.requests ++ record { page = need.page; write = need.write; hart = h; waits = waits } ∷ [] });
    sent = Get need.page need.write ∷ [];
    noted = [];
  }).blade
  by true = is
  by false = record {
    requests = all-last (IsNeededFor images blade.plan.threads (slice_set blade.harts h (Some new)) blade.cache.entries) blade.requests asked
        (goes_on images blade.plan.threads blade.harts h hart new blade.cache.entries blade.cache.entries own (λ s. waits-same waits hart) blade.requests
        (for_all (λ other. ServesLess other.page blade.cache.entries blade.cache.entries) (λ other. less-same other.page blade.cache.entries) blade.requests) firm.requests is.requests) needs;
    queues = queues_set blade.plan.threads blade.harts h hart new own (queue_kept hart new (waits-queue waits hart)) is.queues;
  }

-- ---- a drain

drains : (images : List Image) (blade : BladeView) (h : ℕ) (plan : ThreadPlan) (stores : List PendingView) (hart : HartView) → IsFirm blade → slice_get blade.plan.threads h ≡ Some plan
    → hart_in blade.harts h ≡ Some hart → hart.queue.stores ≡ stores → IsNeeded images blade → IsNeeded images (draining_by h plan stores blade hart).blade
drains images blade h plan [] hart firm planned own queue is = is
drains images blade h plan (oldest ∷ newer) hart firm planned own queue is = by (is_writable (frame_of (page_at (place_of plan.domain oldest.address)) blade.cache.entries)) where
  new : HartView
  new = one_more_store (record hart { queue = record hart.queue { stores = newer } })

  entries : Entries
  entries = frames_with plan.domain oldest (next_tag h hart.stores) blade.cache.entries

  room : length (oldest ∷ newer) ≤ hart.queue.capacity
  room = subst (λ stores. length stores ≤ hart.queue.capacity) queue (is.queues h plan hart planned own).room

  stays : Stays hart new
  stays = record {
    regs = refl;
    end = refl;
    ready = λ found e. popped found oldest newer hart.queue.capacity room (ap (λ stores. drains_first found stores hart.queue.capacity) (sym queue) ∙ e);
  }

  by : (b : Bool) → IsNeeded images (if b then drained h plan oldest newer blade hart
      else asking h Drain (record { page = page_at (place_of plan.domain oldest.address); write = true }) blade hart).blade
  by true = record {
    requests = goes_on images blade.plan.threads blade.harts h hart new blade.cache.entries entries own (λ s. stays) blade.requests
        (for_all (λ asked. ServesLess asked.page blade.cache.entries entries)
        (λ asked. less-stored plan.domain (next_tag h hart.stores) oldest blade.cache.entries firm.cache.distinct asked.page) blade.requests) firm.requests is.requests;
    queues = queues_set blade.plan.threads blade.harts h hart new own (λ t q. record { places = q.places; room = omega (arith, room) }) is.queues;
  }
  by false = asks images blade h Drain (record { page = page_at (place_of plan.domain oldest.address); write = true }) hart firm own tt is

pub drains_by : (images : List Image) (blade : BladeView) (h : ℕ) (plan : ThreadPlan) (hart : HartView) → IsFirm blade → slice_get blade.plan.threads h ≡ Some plan
    → hart_in blade.harts h ≡ Some hart → IsNeeded images blade → IsNeeded images (draining_by h plan hart.queue.stores blade hart).blade
drains_by images blade h plan hart firm planned own is = drains images blade h plan hart.queue.stores hart firm planned own refl is

drains_of : (images : List Image) (blade : BladeView) (h : ℕ) (plan : ThreadPlan) (hart : HartView) → IsFirm blade → slice_get blade.plan.threads h ≡ Some plan
    → hart_in blade.harts h ≡ Some hart → IsNeeded images blade → IsNeeded images (drain_of h plan blade hart).blade
drains_of images blade h plan hart firm planned own is = by hart.draining where
  by : (b : Bool) → IsNeeded images (if b then only blade else draining_by h plan hart.queue.stores blade hart).blade
  by true = is
  by false = drains_by images blade h plan hart firm planned own is

-- ---- a step

-- what a hart that runs comes upon
record ComesUpon (images : List Image) (blade : BladeView) (h : ℕ) (plan : ThreadPlan) (image : Image) (pc : ℕ) (hart : HartView) : Type 0 where
  planned : slice_get blade.plan.threads h ≡ Some plan
  own : hart_in blade.harts h ≡ Some hart
  code : slice_get images plan.image ≡ Some image
  runs : hart.end ≡ Running pc
  free : hart.stepping ≡ false
  ready : drains_first (found image hart.regs pc) hart.queue.stores hart.queue.capacity ≡ false

steps_at : (images : List Image) (blade : BladeView) (h : ℕ) (plan : ThreadPlan) (image : Image) (pc : ℕ) (hart : HartView) → IsFirm blade → ComesUpon images blade h plan image pc hart
    → IsNeeded images blade → (need : Option Need) → need_in (found image hart.regs pc) plan.domain ≡ need → IsNeeded images (stepping_at need h plan (found image hart.regs pc) pc blade hart).blade
steps_at images blade h plan image pc hart firm at is None needs = performs images blade h plan (found image hart.regs pc) pc hart firm at.own at.free at.ready is
steps_at images blade h plan image pc hart firm at is (Some need) needs = by (serves (found image hart.regs pc) (frame_of need.page blade.cache.entries)) refl where
  by : (b : Bool) → serves (found image hart.regs pc) (frame_of need.page blade.cache.entries) ≡ b
      → IsNeeded images (if b then performed h plan (found image hart.regs pc) pc blade hart else asking h Step need blade hart).blade
  by true e = performs images blade h plan (found image hart.regs pc) pc hart firm at.own at.free at.ready is
  by false e = asks images blade h Step need hart firm at.own (record {
    waiting = record {
      plan = plan;
      hart = waiting Step hart;
      image = image;
      pc = pc;
      thread = at.planned;
      own = hart_in-set blade.harts h hart (waiting Step hart) at.own;
      code = at.code;
      runs = at.runs;
    };
    needs = needs;
    ready = at.ready;
    unserved = e;
  }) is

steps : (images : List Image) (blade : BladeView) (h : ℕ) (plan : ThreadPlan) (image : Image) (hart : HartView) → IsFirm blade → slice_get blade.plan.threads h ≡ Some plan
    → hart_in blade.harts h ≡ Some hart → slice_get images plan.image ≡ Some image → IsNeeded images blade
    → (end : End) → hart.end ≡ end → IsNeeded images (step_at end h plan image blade hart).blade
steps images blade h plan image hart firm planned own code is (Exit value) runs = is
steps images blade h plan image hart firm planned own code is (Fault kind value pc) runs = is
steps images blade h plan image hart firm planned own code is (Running pc) runs = by hart.stepping refl where
  first : hart.stepping ≡ false → (b : Bool) → drains_first (found image hart.regs pc) hart.queue.stores hart.queue.capacity ≡ b
      → IsNeeded images (if b then drain_of h plan blade hart else stepping_at (need_in (found image hart.regs pc) plan.domain) h plan (found image hart.regs pc) pc blade hart).blade
  first free true e = drains_of images blade h plan hart firm planned own is
  first free false e = steps_at images blade h plan image pc hart firm (record { planned = planned; own = own; code = code; runs = runs; free = free; ready = e }) is (need_in (found image hart.regs pc) plan.domain) refl

  by : (b : Bool) → hart.stepping ≡ b → IsNeeded images (if b then only blade else stepping_by h plan (found image hart.regs pc) pc blade hart).blade
  by true e = is
  by false e = first e (drains_first (found image hart.regs pc) hart.queue.stores hart.queue.capacity) refl

-- ---- the calls

pub step_keeps : (images : List Image) (h : ℕ) (blade : BladeView) (e : BladeEffect) → IsFirm blade → IsNeeded images blade → after_step images h blade ≡ Some e → IsNeeded images e.blade
step_keeps images h blade e firm is given =
    let o = for_hart-some blade h (λ plan hart. option_map (λ image. step_at hart.end h plan image blade hart) (slice_get images plan.image)) e given in
    by o (slice_get images o.plan.image) refl o.does
  where
    by : (o : OfHart blade h (λ plan hart. option_map (λ image. step_at hart.end h plan image blade hart) (slice_get images plan.image)) e)
        → (code : Option Image) → slice_get images o.plan.image ≡ code → option_map (λ image. step_at o.hart.end h o.plan image blade o.hart) code ≡ Some e → IsNeeded images e.blade
    by o None f d = let never : ⊥ = cc in absurd never
    by o (Some image) f d = subst (λ (e : BladeEffect). IsNeeded images e.blade) (same_Some _ _ d) (steps images blade h o.plan image o.hart firm o.thread o.own f is o.hart.end refl)

pub drain_keeps : (images : List Image) (h : ℕ) (blade : BladeView) (e : BladeEffect) → IsFirm blade → IsNeeded images blade → blade_after_drain h blade ≡ Some e → IsNeeded images e.blade
drain_keeps images h blade e firm is given =
    let o = for_hart-some blade h (λ plan hart. Some (drain_of h plan blade hart)) e given in
    subst (λ (e : BladeEffect). IsNeeded images e.blade) (same_Some _ _ o.does) (drains_of images blade h o.plan o.hart firm o.thread o.own is)
