-- What no frame serves is served by none after each change of the pages that are held, but for a page that comes.
use Rattle.std.proofs.Common.{◌≡◌, ℕ, Bool, true, false, cond, not, ◌||◌, ap, refl, Option, Some, None, option_map, ◌∙◌}
use Rattle.std.specs.Prelude.{if◌then◌else◌}
use Rattle.std.specs.List.{IsDistinct}
use Rattle.std.specs.Map.{keys_of}
use Rattle.mind_base.specs.Page.{PageView}
use Rattle.mind_base.specs.Pending.{PendingView}
use Rattle.mind_base.specs.Place.{place_of, page_at, offset_at}
use Rattle.mind_base.specs.declared.ends.End.{End}
use Rattle.mind_base.specs.declared.ends.End.TheVariants.{Running, Exit, Fault}
use Rattle.mind_base.specs.Permission.{may_write}
use Rattle.hart_effect.specs.Deed.{Deed, Alone, Storing}
use Rattle.hart_effect.specs.declared.finds.Found.{Found}
use Rattle.page_cache.specs.PageCache.{CacheView, IsPageCache, same_page, frame_of, without_page, with_first, with_change, written_frame, lowered_frame, entries_after_put, put_of}
use Rattle.page_cache.specs.declared.frames.Frame.{Frame}
use Rattle.page_cache.specs.declared.frames.Put.{Put}
use Rattle.page_cache.specs.declared.frames.Put.TheVariants.{Fresh, Replaced, Pushed}
use Rattle.page_cache.proofs.Callers.{same_page-true, same_page-is_equivalence, frame_of-without, frame_of-with_change, frame_of-with_first}
use Rattle.compute_blade.specs.Blade.{HartView}
use Rattle.compute_blade.specs.Harts.{holding}
use Rattle.compute_blade.specs.Steps.{serves, writes_at_once, frames_with, frames_after, frames_after_deed, need_in, next_tag}
use Rattle.compute_blade.specs.declared.kept.Need.{Need}
use Rattle.rack_core.proofs.Lists.Lookups.{Entries, found-put_fresh, found-put_replaced, found-put_pushed, cache-with_first}

-- what no frame of the page served before, none serves now
abbrev pub ServesLess : PageView → Entries → Entries → Type 0
ServesLess page old new = (found : Found) → serves found (frame_of page old) ≡ false → serves found (frame_of page new) ≡ false

pub less-same : (page : PageView) (entries : Entries) → ServesLess page entries entries
less-same page entries found e = e

-- a change of a frame after which it serves no more than before
abbrev pub Weakens : (Frame → Frame) → Type 0
Weakens change = (found : Found) (frame : Frame) → serves found (Some frame) ≡ false → serves found (Some (change frame)) ≡ false

weakens-same : Weakens (λ frame. frame)
weakens-same found frame e = e

weakens-written : (offset size value tag : ℕ) → Weakens (written_frame offset size value tag)
weakens-written offset size value tag found frame e = e

weakens-lowered : Weakens lowered_frame
weakens-lowered found frame e = which (not (writes_at_once found)) frame.writable (not (may_write frame.perm)) e where
  which : (a b c : Bool) → (a || b || c) ≡ false → (a || false || c) ≡ false
  which a false c e = e
  which true true c e = e
  which false true c e = let never : ⊥ = cc in absurd never

-- the frame of a page changes, and those of other pages stay
changed : (change : Frame → Frame) (page : PageView) (entries new : Entries) → Weakens change
    → ((other : PageView) → frame_of other new ≡ cond (same_page page other) (option_map change (frame_of page entries)) (frame_of other entries))
    → (other : PageView) → ServesLess other entries new
changed change page entries new weakens is other found e = by (same_page page other) refl (is other) where
  own : (o : Option Frame) → serves found o ≡ false → serves found (option_map change o) ≡ false
  own None f = refl
  own (Some frame) f = weakens found frame f

  by : (b : Bool) → same_page page other ≡ b → frame_of other new ≡ cond b (option_map change (frame_of page entries)) (frame_of other entries) → serves found (frame_of other new) ≡ false
  by true s f = ap (serves found) f ∙ own (frame_of page entries) (ap (λ q. serves found (frame_of q entries)) (same_page-true page other s) ∙ e)
  by false s f = ap (serves found) f ∙ e

less-first : (change : Frame → Frame) (page : PageView) (entries : Entries) → Weakens change → IsDistinct same_page (keys_of entries)
    → (other : PageView) → ServesLess other entries (with_first change page entries)
less-first change page entries weakens distinct =
    changed change page entries (with_first change page entries) weakens (λ other. frame_of-with_first change page other entries distinct)

pub less-lowered : (page : PageView) (entries : Entries) (other : PageView) → ServesLess other entries (with_change lowered_frame page entries)
less-lowered page entries =
    changed lowered_frame page entries (with_change lowered_frame page entries) weakens-lowered (λ other. frame_of-with_change lowered_frame page other entries)

pub less-without : (page : PageView) (entries : Entries) → IsDistinct same_page (keys_of entries) → (other : PageView) → ServesLess other entries (without_page page entries)
less-without page entries distinct other found e = by (same_page page other) (frame_of-without page other entries distinct) where
  by : (b : Bool) → frame_of other (without_page page entries) ≡ cond b None (frame_of other entries) → serves found (frame_of other (without_page page entries)) ≡ false
  by true f = ap (serves found) f
  by false f = ap (serves found) f ∙ e

-- ---- an instruction is performed, and a store takes effect

pub less-stored : (domain tag : ℕ) (store : PendingView) (entries : Entries) → IsDistinct same_page (keys_of entries) → (other : PageView) → ServesLess other entries (frames_with domain store tag entries)
less-stored domain tag store entries distinct = less-first (written_frame (offset_at (place_of domain store.address)) store.size store.value tag)
    (page_at (place_of domain store.address)) entries (weakens-written (offset_at (place_of domain store.address)) store.size store.value tag) distinct

pub shape-stored : (domain tag : ℕ) (store : PendingView) (cache : CacheView) → IsPageCache cache → IsPageCache (holding cache (frames_with domain store tag cache.entries))
shape-stored domain tag store cache is =
    cache-with_first (written_frame (offset_at (place_of domain store.address)) store.size store.value tag) (page_at (place_of domain store.address)) cache is

less-used : (need : Option Need) (end : End) (entries : Entries) → IsDistinct same_page (keys_of entries) → (other : PageView) → ServesLess other entries (frames_after need end entries)
less-used None (Running pc) entries distinct other = less-same other entries
less-used (Some need) (Running pc) entries distinct other = less-first (λ frame. frame) need.page entries weakens-same distinct other
less-used need (Exit value) entries distinct other = less-same other entries
less-used need (Fault kind value pc) entries distinct other = less-same other entries

pub less-done : (h domain : ℕ) (found : Found) (hart : HartView) (entries : Entries) → IsDistinct same_page (keys_of entries) → (deed : Deed)
    → (other : PageView) → ServesLess other entries (frames_after_deed h domain found entries hart deed)
less-done h domain found hart entries distinct (Alone thread) = less-used (need_in found domain) thread.end entries distinct
less-done h domain found hart entries distinct (Storing thread store) = less-stored domain (next_tag h hart.stores) store entries distinct

shape-used : (need : Option Need) (end : End) (cache : CacheView) → IsPageCache cache → IsPageCache (holding cache (frames_after need end cache.entries))
shape-used None (Running pc) cache is = is
shape-used (Some need) (Running pc) cache is = cache-with_first (λ frame. frame) need.page cache is
shape-used need (Exit value) cache is = is
shape-used need (Fault kind value pc) cache is = is

-- ---- a page that comes

-- other pages are held as they were, or no more
pub less-put : (cache : CacheView) (page : PageView) (frame : Frame) → IsPageCache cache → (other : PageView) → same_page page other ≡ false
    → ServesLess other cache.entries (entries_after_put cache page frame)
less-put cache page frame is other away found e = by (put_of cache page) refl where
  apart : same_page other page ≡ false
  apart = same_page-is_equivalence.symm other page ∙ away

  stays : frame_of other (entries_after_put cache page frame) ≡ (if same_page other page then Some frame else frame_of other cache.entries)
      → serves found (frame_of other (entries_after_put cache page frame)) ≡ false
  stays f = ap (serves found) (f ∙ ap (λ b. if b then Some frame else frame_of other cache.entries) apart) ∙ e

  pushed : (out : PageView) → frame_of other (entries_after_put cache page frame) ≡ (if same_page other page then Some frame else (if same_page other out then None else frame_of other cache.entries))
      → serves found (frame_of other (entries_after_put cache page frame)) ≡ false
  pushed out f = ap (serves found) (f ∙ ap (λ b. if b then Some frame else (if same_page other out then None else frame_of other cache.entries)) apart) ∙ which (same_page other out) where
    which : (b : Bool) → serves found (if b then None else frame_of other cache.entries) ≡ false
    which true = refl
    which false = e

  by : (put : Put) → put_of cache page ≡ put → serves found (frame_of other (entries_after_put cache page frame)) ≡ false
  by Fresh p = stays (found-put_fresh cache page frame p other)
  by (Replaced old) p = stays (found-put_replaced cache page frame old is p other)
  by (Pushed out old) p = pushed out ((found-put_pushed cache page frame out old is p).found other)
