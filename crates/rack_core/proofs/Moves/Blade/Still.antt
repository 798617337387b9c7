-- Steps, drains and what goes on when a request is answered leave what a blade holds, and whether to write.
use Rattle.std.proofs.Common.{◌≡◌, ℕ, Bool, true, false, cond, ap, refl, ◌∙◌, List, [], ◌∷◌, slice_get, Option, Some, None, IfSome, option_map, option_and_then, unwrap_or}
use Rattle.std.specs.Prelude.{if◌then◌else◌}
use Rattle.std.specs.List.{AllByRecursion, IsDistinct}
use Rattle.std.specs.Map.{keys_of}
use Rattle.mind_base.specs.Page.{PageView}
use Rattle.mind_base.specs.Pending.{PendingView}
use Rattle.mind_base.specs.Place.{place_of, page_at}
use Rattle.mind_base.specs.declared.ends.End.{End}
use Rattle.mind_base.specs.declared.ends.End.TheVariants.{Running, Exit, Fault}
use Rattle.mind_base.specs.declared.images.Image.{Image}
use Rattle.mind_base.specs.declared.notes.Note.{Note}
use Rattle.mind_base.specs.declared.notes.Note.TheVariants as note
use Rattle.mind_base.specs.declared.plans.ThreadPlan.{ThreadPlan}
use Rattle.hart_effect.specs.Deed.{Deed, Alone, Storing, carried_out, drains_first, found}
use Rattle.hart_effect.specs.declared.finds.Found.{Found}
use Rattle.page_cache.specs.PageCache.{same_page, frame_of, with_first, is_writable}
use Rattle.page_cache.specs.declared.frames.Frame.{Frame}
use Rattle.page_cache.proofs.Callers.{frame_of-with_first, same_page-true}
use Rattle.compute_blade.specs.Actions.{Asks, after_action}
use Rattle.compute_blade.specs.Blade.{HartView, BladeView, BladeEffect, hart_of, is_asked, only}
use Rattle.compute_blade.specs.Denials.{denial_in, refused_by}
use Rattle.compute_blade.specs.Frames.{around_held, thread_of}
use Rattle.compute_blade.specs.Messages.{awake, answered_by, need_asked, resumed_by, resumed_for}
use Rattle.compute_blade.specs.Steps.{blade_after_drain, after_step, asking, drain_of, drained, draining_by, frames_after_deed, for_hart, frames_after, need_in, performed, performed_by, serves, step_at, stepping_at, stepping_by, used_by}
use Rattle.compute_blade.specs.declared.kept.Answer.{Answer}
use Rattle.compute_blade.specs.declared.kept.Answer.TheVariants.{Filled, Denied}
use Rattle.compute_blade.specs.declared.kept.Asked.{Asked}
use Rattle.compute_blade.specs.declared.kept.Denial.{Denial}
use Rattle.compute_blade.specs.declared.kept.Need.{Need}
use Rattle.compute_blade.specs.declared.kept.Waits.{Waits}
use Rattle.compute_blade.specs.declared.kept.Waits.TheVariants.{Step, Drain}
use Rattle.compute_blade.proofs.Callers.{woken}
use Rattle.coherence.proofs.Callers.{writable_of}
use Rattle.rack_core.proofs.Lists.Lookups.{Entries}
use Rattle.rack_core.proofs.Moves.Blade.Resuming.{resumes-as}

-- an instruction was performed, or a store drained
abbrev pub IsLabel : Note → Type 0
IsLabel (note.Exec hart) = Unit {0}
IsLabel (note.Drain hart) = Unit {0}
IsLabel n = ⊥

-- nothing else is noted, and each page is held as it was
pub record IsStill (blade : BladeView) (e : BladeEffect) : Type 0 where
  pub notes : AllByRecursion IsLabel e.noted
  pub pages : (page : PageView) → writable_of (frame_of page e.blade.cache.entries) ≡ writable_of (frame_of page blade.cache.entries)

still-only : (blade : BladeView) → IsStill blade (only blade)
still-only blade = record { notes = tt; pages = λ page. refl }

either : (blade : BladeView) (b : Bool) (x y : BladeEffect) → IsStill blade x → IsStill blade y → IsStill blade (if b then x else y)
either blade true x y p q = p
either blade false x y p q = q

-- ---- frames

-- the frame of a page comes first, as writable as it was
first-still : (change : Frame → Frame) → ((f : Frame) → (change f).writable ≡ f.writable) → (page : PageView) (entries : Entries) → IsDistinct same_page (keys_of entries)
    → (q : PageView) → writable_of (frame_of q (with_first change page entries)) ≡ writable_of (frame_of q entries)
first-still change keeps page entries apart q = ap writable_of (frame_of-with_first change page q entries apart) ∙ by (same_page page q) refl where
  mapped : (o : Option Frame) → writable_of (option_map change o) ≡ writable_of o
  mapped None = refl
  mapped (Some f) = ap Some (keeps f)

  by : (b : Bool) → same_page page q ≡ b → writable_of (cond b (option_map change (frame_of page entries)) (frame_of q entries)) ≡ writable_of (frame_of q entries)
  by true e = mapped (frame_of page entries) ∙ ap (λ p. writable_of (frame_of p entries)) (same_page-true page q e)
  by false e = refl

used-still : (need : Option Need) (entries : Entries) → IsDistinct same_page (keys_of entries) → (q : PageView) → writable_of (frame_of q (used_by need entries)) ≡ writable_of (frame_of q entries)
used-still None entries apart q = refl
used-still (Some need) entries apart q = first-still (λ frame. frame) (λ f. refl) need.page entries apart q

ended-still : (need : Option Need) (end : End) (entries : Entries) → IsDistinct same_page (keys_of entries) → (q : PageView) → writable_of (frame_of q (frames_after need end entries)) ≡ writable_of (frame_of q entries)
ended-still need (Running pc) entries apart q = used-still need entries apart q
ended-still need (Exit value) entries apart q = refl
ended-still need (Fault kind value pc) entries apart q = refl

deed-still : (h domain : ℕ) (found : Found) (entries : Entries) (hart : HartView) (deed : Deed) → IsDistinct same_page (keys_of entries)
    → (q : PageView) → writable_of (frame_of q (frames_after_deed h domain found entries hart deed)) ≡ writable_of (frame_of q entries)
deed-still h domain found entries hart (Alone thread) apart q = ended-still (need_in found domain) thread.end entries apart q
deed-still h domain found entries hart (Storing thread store) apart q = first-still _ (λ f. refl) (page_at (place_of domain store.address)) entries apart q

-- ---- steps and drains

still-asking : (h : ℕ) (waits : Waits) (need : Need) (blade : BladeView) (hart : HartView) → IsStill blade (asking h waits need blade hart)
still-asking h waits need blade hart = either blade (is_asked need.page blade.requests) (only blade) (after_action (Asks h hart waits need) blade) (still-only blade) (record { notes = tt; pages = λ page. refl })

module _ (blade : BladeView) (apart : IsDistinct same_page (keys_of blade.cache.entries)) where
  still-drains : (h : ℕ) (plan : ThreadPlan) (stores : List PendingView) (hart : HartView) → IsStill blade (draining_by h plan stores blade hart)
  still-drains h plan [] hart = still-only blade
  still-drains h plan (oldest ∷ newer) hart =
      either blade (is_writable (frame_of (page_at (place_of plan.domain oldest.address)) blade.cache.entries)) (drained h plan oldest newer blade hart)
      (asking h Drain (record { page = page_at (place_of plan.domain oldest.address); write = true }) blade hart)
      (record { notes = (tt, tt); pages = λ q. first-still _ (λ f. refl) (page_at (place_of plan.domain oldest.address)) blade.cache.entries apart q })
      (still-asking h Drain (record { page = page_at (place_of plan.domain oldest.address); write = true }) blade hart)

  still-drain : (h : ℕ) (plan : ThreadPlan) (hart : HartView) → IsStill blade (drain_of h plan blade hart)
  still-drain h plan hart = either blade hart.draining (only blade) (draining_by h plan hart.queue.stores blade hart) (still-only blade) (still-drains h plan hart.queue.stores hart)

  still-deed : (deed : Option Deed) (h : ℕ) (plan : ThreadPlan) (found : Found) (hart : HartView) → IsStill blade (performed_by deed h plan found blade hart)
  still-deed None h plan found hart = still-only blade
  still-deed (Some deed) h plan found hart = record { notes = (tt, tt); pages = λ q. deed-still h plan.domain found blade.cache.entries hart deed apart q }

  still-performed : (h : ℕ) (plan : ThreadPlan) (found : Found) (pc : ℕ) (hart : HartView) → IsStill blade (performed h plan found pc blade hart)
  still-performed h plan found pc hart = still-deed (carried_out found (around_held blade.cache.entries h plan.domain) pc (thread_of blade.cache.entries hart)) h plan found hart

  still-needs : (need : Option Need) (h : ℕ) (plan : ThreadPlan) (found : Found) (pc : ℕ) (hart : HartView) → IsStill blade (stepping_at need h plan found pc blade hart)
  still-needs None h plan found pc hart = still-performed h plan found pc hart
  still-needs (Some need) h plan found pc hart =
      either blade (serves found (frame_of need.page blade.cache.entries)) (performed h plan found pc blade hart) (asking h Step need blade hart)
      (still-performed h plan found pc hart) (still-asking h Step need blade hart)

  still-at : (end : End) (h : ℕ) (plan : ThreadPlan) (image : Image) (hart : HartView) → IsStill blade (step_at end h plan image blade hart)
  still-at (Running pc) h plan image hart = either blade hart.stepping (only blade) (stepping_by h plan (found image hart.regs pc) pc blade hart) (still-only blade)
      (either blade (drains_first (found image hart.regs pc) hart.queue.stores hart.queue.capacity) (drain_of h plan blade hart)
      (stepping_at (need_in (found image hart.regs pc) plan.domain) h plan (found image hart.regs pc) pc blade hart)
      (still-drain h plan hart) (still-needs (need_in (found image hart.regs pc) plan.domain) h plan (found image hart.regs pc) pc hart))
  still-at (Exit value) h plan image hart = still-only blade
  still-at (Fault kind value pc) h plan image hart = still-only blade

  of_hart : (h : ℕ) (act : ThreadPlan → HartView → Option BladeEffect) → ((plan : ThreadPlan) (hart : HartView) → IfSome (act plan hart) (IsStill blade)) → IfSome (for_hart blade h act) (IsStill blade)
  of_hart h act each = by (slice_get blade.plan.threads h) (hart_of blade h) where
    by : (p : Option ThreadPlan) (o : Option HartView) → IfSome (option_and_then (λ plan. option_and_then (λ hart. act plan hart) o) p) (IsStill blade)
    by None o = tt
    by (Some plan) None = tt
    by (Some plan) (Some hart) = each plan hart

  of_image : (o : Option Image) (act : Image → BladeEffect) → ((image : Image) → IsStill blade (act image)) → IfSome (option_map act o) (IsStill blade)
  of_image None act each = tt
  of_image (Some image) act each = each image

  pub step-still : (images : List Image) (h : ℕ) → IfSome (after_step images h blade) (IsStill blade)
  step-still images h = of_hart h (λ plan hart. option_map (λ image. step_at hart.end h plan image blade hart) (slice_get images plan.image))
      (λ plan hart. of_image (slice_get images plan.image) (λ image. step_at hart.end h plan image blade hart) (λ image. still-at hart.end h plan image hart))

  pub drain-still : (h : ℕ) → IfSome (blade_after_drain h blade) (IsStill blade)
  drain-still h = of_hart h (λ plan hart. Some (drain_of h plan blade hart)) (λ plan hart. still-drain h plan hart)

  -- ---- what waited goes on

  still-denial : (denial : Option Denial) (h pc : ℕ) (hart : HartView) → IsStill blade (refused_by denial h pc blade hart)
  still-denial None h pc hart = still-only blade
  still-denial (Some denial) h pc hart = record { notes = (tt, tt); pages = λ page. refl }

  still-answer : (answer : Answer) (h : ℕ) (plan : ThreadPlan) (found : Found) (pc : ℕ) (hart : HartView) → IsStill blade (answered_by answer h plan found pc blade hart)
  still-answer Filled h plan found pc hart = still-performed h plan found pc hart
  still-answer Denied h plan found pc hart = still-denial (denial_in found) h pc hart

  still-waits : (waits : Waits) (answer : Answer) (asked : Need) (images : List Image) (h : ℕ) (plan : ThreadPlan) (hart : HartView) → IsStill blade (resumed_by waits answer asked images h plan blade hart)
  still-waits Step answer asked images h plan hart =
      resumes-as (IsStill blade) answer asked images h plan blade hart (still-only blade) (λ image pc code runs just ready. still-answer answer h plan (found image hart.regs pc) pc hart)
  still-waits Drain answer asked images h plan hart = still-drains h plan hart.queue.stores hart

pub resumed-still : (answer : Answer) (images : List Image) (asked : Option Asked) (blade : BladeView) → IsDistinct same_page (keys_of blade.cache.entries) → IsStill blade (resumed_for answer images asked blade)
resumed-still answer images None blade apart = still-only blade
resumed-still answer images (Some asked) blade apart = by (slice_get blade.plan.threads asked.hart) (hart_of blade asked.hart) where
  by : (p : Option ThreadPlan) (o : Option HartView) → IsStill blade (unwrap_or (option_and_then (λ plan. option_and_then (λ hart. Some
      (resumed_by asked.waits answer (need_asked asked) images asked.hart plan (woken blade asked hart) (awake asked.waits hart))) o) p) (only blade))
  by None o = still-only blade
  by (Some plan) None = still-only blade
  by (Some plan) (Some hart) =
      let still = still-waits (woken blade asked hart) apart asked.waits answer (need_asked asked) images asked.hart plan (awake asked.waits hart) in
      record { notes = still.notes; pages = still.pages }
