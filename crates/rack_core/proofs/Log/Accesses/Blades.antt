-- What a hart of the rack does at its blade is done where the blade holds the page that it needs.
use Rattle.std.proofs.Common.{◌≡◌, ℕ, Bool, true, false, ap, sym, refl, subst, ◌∙◌, List, [], ◌∷◌, slice_get, slice_set, Option, Some, None, option_map, unwrap_or}
use Rattle.std.specs.Prelude.{if◌then◌else◌, option_and_then}
use Rattle.std.proofs.lemmas.Bool.{false≢true}
use Rattle.std.proofs.lemmas.Option.{none-some, same_Some, slice_get-map}
use Rattle.mind_base.specs.Page.{PageView}
use Rattle.mind_base.specs.Pending.{PendingView}
use Rattle.mind_base.specs.Permission.{permission_of, allows}
use Rattle.mind_base.specs.Place.{place_of, page_at, granule_at}
use Rattle.mind_base.specs.declared.commands.Perm.{Perm}
use Rattle.mind_base.specs.declared.ends.End.{End}
use Rattle.mind_base.specs.declared.ends.End.TheVariants.{Running, Exit, Fault}
use Rattle.mind_base.specs.declared.images.Image.{Image}
use Rattle.mind_base.specs.declared.notes.Note.{Note}
use Rattle.mind_base.specs.declared.plans.ThreadPlan.{ThreadPlan}
use Rattle.hart_effect.specs.Access.{AccessView}
use Rattle.hart_effect.specs.Deed.{Deed, Alone, Storing, found, faulted, carried_out, drains_first, executed, executed_at}
use Rattle.hart_effect.specs.Thread.{Thread}
use Rattle.hart_effect.specs.declared.finds.Found.{Found}
use Rattle.page_cache.specs.PageCache.{frame_of, is_writable}
use Rattle.page_cache.specs.declared.frames.Frame.{Frame}
use Rattle.page_image.specs.PageImage.{PageImageView}
use Rattle.protect_table.specs.Protect.{permission_at}
use Rattle.compute_blade.specs.Actions.{Asks, after_action}
use Rattle.compute_blade.specs.Blade.{HartView, BladeView, BladeEffect, is_asked, only}
use Rattle.compute_blade.specs.Denials.{denial_in, refused_by}
use Rattle.compute_blade.specs.Frames.{around_held, thread_of}
use Rattle.compute_blade.specs.Messages.{needs_just, resumed_by}
use Rattle.compute_blade.specs.Steps.{asking, drain_of, drained, draining_by, need_in, performed, performed_by, serves, step_at, stepping_at, stepping_by}
use Rattle.compute_blade.specs.declared.kept.Answer.TheVariants.{Filled, Denied}
use Rattle.compute_blade.specs.declared.kept.Denial.{Denial}
use Rattle.compute_blade.specs.declared.kept.Need.{Need}
use Rattle.compute_blade.specs.declared.kept.Waits.{Waits}
use Rattle.compute_blade.specs.declared.kept.Waits.TheVariants.{Step, Drain}
use Rattle.coherence.specs.Held.{Holdings}
use Rattle.coherence.proofs.Callers.{writable_of}
use Rattle.tso_machine.specs.State.{Setup, State}
use Rattle.tso_machine.specs.Step.{after_exec, around_in, done_by, thread_off}
use Rattle.rack_core.specs.Accesses.{AreAccessesHeld, DrainHolds, ExecHolds, IsPerformed, is_fault}
use Rattle.rack_core.specs.AtOnce.{access_at, access_in, is_held_as, next_access}
use Rattle.rack_core.proofs.Log.AtOnce.AtHand.{is_held_for, for-held}
use Rattle.rack_core.specs.Rack.{RackView}
use Rattle.rack_core.specs.StandRuns.{GoesWith}
use Rattle.rack_core.specs.Stands.{IsHartAt, machine_thread}
use Rattle.rack_core.proofs.Log.Accesses.Finds.{AllSuits, Suits, end_of, performed-held, served-suits}
use Rattle.rack_core.proofs.Moves.Blade.Fills.{just-page}
use Rattle.rack_core.proofs.Log.Held.BladeNotes.{HoldsAs}
use Rattle.rack_core.proofs.Lists.Lookups.{slice_get-set}
use Rattle.rack_core.proofs.Machine.Denies.{FaultsIn, exec-faults, just-faults}
use Rattle.rack_core.proofs.Moves.Blade.Resuming.{resumes-as}

-- the notes that a blade made are such that it holds what they want, where it holds these pages
abbrev pub Holds : Setup → State → ℕ → BladeView → List Note → Type 0
Holds setup m c blade noted = (held : Holdings) → HoldsAs c blade held → AreAccessesHeld setup m held noted

-- ---- what is held, and the frames

to-write : (frame : Option Frame) → is_writable frame ≡ true → writable_of frame ≡ Some true
to-write None e = absurd (false≢true e)
to-write (Some frame) e = ap Some e

-- ---- the thread after a deed

-- it ends as the deed says
end-done : (h domain : ℕ) (m next : State) (was thread : Thread) (deed : Deed) → slice_get m.threads h ≡ Some was → next ≡ done_by h domain m deed → slice_get next.threads h ≡ Some thread
    → thread.end ≡ end_of deed
end-done h domain m next was thread (Alone new) there is now =
    let here : slice_get next.threads h ≡ Some new = ap (λ (s : State). slice_get s.threads h) is ∙ slice_get-set m.threads h was new there in
    ap (λ (t : Thread). t.end) (same_Some thread new (sym now ∙ here))
end-done h domain m next was thread (Storing new store) there is now =
    let off : Thread → Thread = thread_off (granule_at (place_of domain store.address)) in
    let here : slice_get next.threads h ≡ Some (off new) = ap (λ (s : State). slice_get s.threads h) is
    ∙ slice_get-map off (slice_set m.threads h new) h ∙ ap (option_map off) (slice_get-set m.threads h was new there) in
    ap (λ (t : Thread). t.end) (same_Some thread (off new) (sym now ∙ here))

module _ (images : List Image) (setup : Setup) (old : RackView) (flat : PageView → PageImageView) (m : State) (goes : GoesWith images setup old flat m) (h : ℕ) (hart : HartView) (at : IsHartAt old h hart) where
  planned : slice_get setup.plan.threads h ≡ Some at.plan
  planned = ap (λ plan. slice_get plan.threads h) goes.plan ∙ at.thread

  -- what is done in the blade's notes, which are none
  nothing : Holds setup m at.plan.blade at.blade []
  nothing held is = tt

  either : (b : Bool) (x y : BladeEffect) → Holds setup m at.plan.blade at.blade x.noted → Holds setup m at.plan.blade at.blade y.noted → Holds setup m at.plan.blade at.blade (if b then x else y).noted
  either true x y p q = p
  either false x y p q = q

  -- ---- an instruction

  module _ (image : Image) (pc : ℕ) (code : slice_get images at.plan.image ≡ Some image) (runs : hart.end ≡ Running pc) where
    abbrev finds : Found
    finds = found image hart.regs pc

    coded : slice_get setup.images at.plan.image ≡ Some image
    coded = ap (λ all. slice_get all at.plan.image) goes.code ∙ code

    -- the access that the machine's thread makes next
    accesses : next_access setup m.threads h ≡ access_in finds at.plan.domain
    accesses =
        ap (option_and_then (λ plan. option_and_then (λ image. option_and_then (λ thread. access_at thread.end image thread plan.domain) (slice_get m.threads h)) (slice_get setup.images plan.image))) planned
        ∙ ap (option_and_then (λ image. option_and_then (λ thread. access_at thread.end image thread at.plan.domain) (slice_get m.threads h))) coded
        ∙ ap (option_and_then (λ thread. access_at thread.end image thread at.plan.domain)) (goes.stands.threads h hart at)
        ∙ ap (λ end. access_at end image (machine_thread flat hart) at.plan.domain) runs

    -- and what it does
    executes : after_exec setup m h ≡ option_map (done_by h at.plan.domain m) (carried_out finds (around_in m h at.plan.domain) pc (machine_thread flat hart))
    executes =
        ap (option_and_then (λ plan. option_and_then (λ image. option_and_then (λ thread. option_map (done_by h plan.domain m) (executed image (around_in m h plan.domain) thread))
        (slice_get m.threads h)) (slice_get setup.images plan.image))) planned
        ∙ ap (option_and_then (λ image. option_and_then (λ thread. option_map (done_by h at.plan.domain m) (executed image (around_in m h at.plan.domain) thread)) (slice_get m.threads h))) coded
        ∙ ap (option_and_then (λ thread. option_map (done_by h at.plan.domain m) (executed image (around_in m h at.plan.domain) thread))) (goes.stands.threads h hart at)
        ∙ ap (λ end. option_map (done_by h at.plan.domain m) (executed_at end image (around_in m h at.plan.domain) (machine_thread flat hart))) runs

    -- where the access is performed, its page is held in the blade's frames
    exec-held : AllSuits finds at.plan.domain (permission_of m.perms) (λ page. frame_of page at.blade.cache.entries) → (access : AccessView) → access_in finds at.plan.domain ≡ Some access → IsPerformed setup m h
        → is_held_for access.kind (frame_of (page_at (place_of access.domain access.address)) at.blade.cache.entries) ≡ true
    exec-held suits access next performed = by (carried_out finds (around_in m h at.plan.domain) pc (machine_thread flat hart)) refl (sym executes ∙ performed.enabled) where
      by : (o : Option Deed) → carried_out finds (around_in m h at.plan.domain) pc (machine_thread flat hart) ≡ o → option_map (done_by h at.plan.domain m) o ≡ Some performed.next
          → is_held_for access.kind (frame_of (page_at (place_of access.domain access.address)) at.blade.cache.entries) ≡ true
      by None does e = absurd (none-some performed.next e)
      by (Some deed) does e = performed-held (λ page. frame_of page at.blade.cache.entries) finds (around_in m h at.plan.domain) pc (machine_thread flat hart) deed access does
          (ap is_fault (sym (end-done h at.plan.domain m performed.next (machine_thread flat hart) performed.thread deed (goes.stands.threads h hart at) (sym (same_Some _ _ e)) performed.there)) ∙ performed.fine)
          next suits

    exec-holds : AllSuits finds at.plan.domain (permission_of m.perms) (λ page. frame_of page at.blade.cache.entries) → (held : Holdings) → HoldsAs at.plan.blade at.blade held → ExecHolds setup m held h
    exec-holds suits held holds plan access is next performed =
        let page : PageView = page_at (place_of access.domain access.address) in
        let same : at.plan ≡ plan = same_Some _ _ (sym planned ∙ is) in
        subst (λ (p : ThreadPlan). is_held_as access.kind (held p.blade page) ≡ true) same
        (ap (is_held_as access.kind) (holds page) ∙ for-held access.kind (frame_of page at.blade.cache.entries) ∙ exec-held suits access (sym accesses ∙ next) performed)

    -- a thread that the instruction ends by a fault performs no access
    faults-hold : (held : Holdings) (next : State) (deed : Deed) → after_exec setup m h ≡ Some next → next ≡ done_by h at.plan.domain m deed → is_fault (end_of deed) ≡ true → ExecHolds setup m held h
    faults-hold held next deed does is ends plan access p n performed =
        let same : next ≡ performed.next = same_Some _ _ (sym does ∙ performed.enabled) in
        let end = end-done h at.plan.domain m performed.next (machine_thread flat hart) performed.thread deed (goes.stands.threads h hart at) (sym same ∙ is) performed.there in
        absurd (false≢true (sym performed.fine ∙ ap is_fault end ∙ ends))

    performs-hold : AllSuits finds at.plan.domain (permission_of m.perms) (λ page. frame_of page at.blade.cache.entries) → Holds setup m at.plan.blade at.blade (performed h at.plan finds pc at.blade hart).noted
    performs-hold suits = by (carried_out finds (around_held at.blade.cache.entries h at.plan.domain) pc (thread_of at.blade.cache.entries hart)) where
      by : (o : Option Deed) → Holds setup m at.plan.blade at.blade (performed_by o h at.plan finds at.blade hart).noted
      by None = nothing
      by (Some deed) = λ held holds. (exec-holds suits held holds, tt)

    -- what serves the instruction suits it
    suits-served : (need : Need) → serves finds (frame_of need.page at.blade.cache.entries) ≡ true → Suits finds (permission_of m.perms) need (frame_of need.page at.blade.cache.entries)
    suits-served need e = served-suits finds (permission_of m.perms) need (frame_of need.page at.blade.cache.entries)
        (λ frame is. (goes.frames at.plan.blade need.page frame (ap (option_and_then (λ blade. frame_of need.page blade.cache.entries)) at.there ∙ is)).perm ∙ sym (ap (λ f. f need.page) goes.stands.perms)) e

  -- ---- a drain

  drain-holds : (oldest : PendingView) (newer : List PendingView) → hart.queue.stores ≡ oldest ∷ newer → is_writable (frame_of (page_at (place_of at.plan.domain oldest.address)) at.blade.cache.entries) ≡ true
      → (held : Holdings) → HoldsAs at.plan.blade at.blade held → DrainHolds setup m held h
  drain-holds oldest newer queue writable held holds plan thread first later is there buffer =
      let same : at.plan ≡ plan = same_Some _ _ (sym planned ∙ is) in
      let its : machine_thread flat hart ≡ thread = same_Some _ _ (sym (goes.stands.threads h hart at) ∙ there) in
      let stores : oldest ∷ newer ≡ first ∷ later = sym queue ∙ ap (λ (t : Thread). t.buffer) its ∙ buffer in
      let head : oldest ≡ first = ap (λ (all : List PendingView). unwrap_or (slice_get all 0) oldest) stores in
      let page : PageView = page_at (place_of at.plan.domain oldest.address) in
      subst (λ (p : ThreadPlan). held p.blade (page_at (place_of p.domain first.address)) ≡ Some true) same
      (subst (λ (s : PendingView). held at.plan.blade (page_at (place_of at.plan.domain s.address)) ≡ Some true) head (holds page ∙ to-write (frame_of page at.blade.cache.entries) writable))

  asks-hold : (waits : Waits) (need : Need) → Holds setup m at.plan.blade at.blade (asking h waits need at.blade hart).noted
  asks-hold waits need = either (is_asked need.page at.blade.requests) (only at.blade) (after_action (Asks h hart waits need) at.blade) nothing nothing

  draining-hold : (queue : List PendingView) → hart.queue.stores ≡ queue → Holds setup m at.plan.blade at.blade (draining_by h at.plan queue at.blade hart).noted
  draining-hold [] is = nothing
  draining-hold (oldest ∷ newer) is = by (is_writable (frame_of (page_at (place_of at.plan.domain oldest.address)) at.blade.cache.entries)) refl where
    by : (b : Bool) → is_writable (frame_of (page_at (place_of at.plan.domain oldest.address)) at.blade.cache.entries) ≡ b
        → Holds setup m at.plan.blade at.blade (if b then drained h at.plan oldest newer at.blade hart
        else asking h Drain (record { page = page_at (place_of at.plan.domain oldest.address); write = true }) at.blade hart).noted
    by true e = λ held holds. (drain-holds oldest newer is e held holds, tt)
    by false e = asks-hold Drain (record { page = page_at (place_of at.plan.domain oldest.address); write = true })

  pub drain-hold : Holds setup m at.plan.blade at.blade (drain_of h at.plan at.blade hart).noted
  drain-hold = either hart.draining (only at.blade) (draining_by h at.plan hart.queue.stores at.blade hart) nothing (draining-hold hart.queue.stores refl)

  -- ---- a step

  needs-hold : (image : Image) (pc : ℕ) → slice_get images at.plan.image ≡ Some image → hart.end ≡ Running pc → (need : Option Need) → need_in (found image hart.regs pc) at.plan.domain ≡ need
      → Holds setup m at.plan.blade at.blade (stepping_at need h at.plan (found image hart.regs pc) pc at.blade hart).noted
  needs-hold image pc code runs None needs = performs-hold image pc code runs (λ need is. absurd (none-some need (sym needs ∙ is)))
  needs-hold image pc code runs (Some need) needs = by (serves (found image hart.regs pc) (frame_of need.page at.blade.cache.entries)) refl where
    by : (b : Bool) → serves (found image hart.regs pc) (frame_of need.page at.blade.cache.entries) ≡ b
        → Holds setup m at.plan.blade at.blade (if b then performed h at.plan (found image hart.regs pc) pc at.blade hart else asking h Step need at.blade hart).noted
    by true e = performs-hold image pc code runs (λ other is. suits-served image pc code runs other
        (subst (λ (n : Need). serves (found image hart.regs pc) (frame_of n.page at.blade.cache.entries) ≡ true) (same_Some _ _ (sym needs ∙ is)) e))
    by false e = asks-hold Step need

  pub step-hold : (image : Image) → slice_get images at.plan.image ≡ Some image → (end : End) → hart.end ≡ end → Holds setup m at.plan.blade at.blade (step_at end h at.plan image at.blade hart).noted
  step-hold image code (Running pc) runs = either hart.stepping (only at.blade) (stepping_by h at.plan (found image hart.regs pc) pc at.blade hart) nothing
      (either (drains_first (found image hart.regs pc) hart.queue.stores hart.queue.capacity) (drain_of h at.plan at.blade hart)
      (stepping_at (need_in (found image hart.regs pc) at.plan.domain) h at.plan (found image hart.regs pc) pc at.blade hart)
      drain-hold (needs-hold image pc code runs (need_in (found image hart.regs pc) at.plan.domain) refl))
  step-hold image code (Exit value) runs = nothing
  step-hold image code (Fault kind value pc) runs = nothing

  -- ---- what waited for a page that came

  -- the page is held, and to write where it was asked for to be written
  suits-just : (finds : Found) (perm : PageView → Perm) (asked : Need) (frame : Frame) → frame_of asked.page at.blade.cache.entries ≡ Some frame → (asked.write ≡ true → frame.writable ≡ true)
      → needs_just asked (need_in finds at.plan.domain) ≡ true → AllSuits finds at.plan.domain perm (λ page. frame_of page at.blade.cache.entries)
  suits-just finds perm asked frame held writable just need is =
      let same = just-page asked (need_in finds at.plan.domain) need is just in
      let found_it : frame_of need.page at.blade.cache.entries ≡ Some frame = ap (λ p. frame_of p at.blade.cache.entries) (sym same.0) ∙ held in
      subst (Suits finds perm need) (sym found_it) (record { held = refl; writable = λ at_once write may. writable (same.1 ∙ write) })

  pub resumes-hold : (asked : Need) (frame : Frame) → frame_of asked.page at.blade.cache.entries ≡ Some frame → (asked.write ≡ true → frame.writable ≡ true) → (waits : Waits)
      → Holds setup m at.plan.blade at.blade (resumed_by waits Filled asked images h at.plan at.blade hart).noted
  resumes-hold asked frame held writable Step =
      resumes-as (λ e. Holds setup m at.plan.blade at.blade e.noted) Filled asked images h at.plan at.blade hart nothing
      (λ image pc code runs just ready. performs-hold image pc code runs (suits-just (found image hart.regs pc) (permission_of m.perms) asked frame held writable just))
  resumes-hold asked frame held writable Drain = draining-hold hart.queue.stores refl

  -- ---- what waited for a page that is denied

  refuses-hold : (asked : Need) → allows asked.write (permission_at old.switch.protect asked.page) ≡ false → (image : Image) (pc : ℕ) → slice_get images at.plan.image ≡ Some image → hart.end ≡ Running pc
      → needs_just asked (need_in (found image hart.regs pc) at.plan.domain) ≡ true → drains_first (found image hart.regs pc) hart.queue.stores hart.queue.capacity ≡ false
      → Holds setup m at.plan.blade at.blade (refused_by (denial_in (found image hart.regs pc)) h pc at.blade hart).noted
  refuses-hold asked off image pc code runs just ready =
      refused (denial_in (found image hart.regs pc))
      (just-faults (found image hart.regs pc) (around_in m h at.plan.domain) pc hart.queue.capacity (machine_thread flat hart) asked (ap (λ f. allows asked.write (f asked.page)) goes.stands.perms ∙ off) just ready)
    where
      refused : (denial : Option Denial) → FaultsIn denial pc (machine_thread flat hart) (carried_out (found image hart.regs pc) (around_in m h at.plan.domain) pc (machine_thread flat hart))
          → Holds setup m at.plan.blade at.blade (refused_by denial h pc at.blade hart).noted
      refused None faults = absurd faults
      refused (Some denial) faults =
          let deed : Deed = Alone (faulted denial.kind denial.address pc (machine_thread flat hart)) in
          λ held holds. (
            faults-hold image pc code runs held (done_by h at.plan.domain m deed) deed
                (exec-faults images setup old flat m goes h hart at image pc code runs deed faults) refl refl,
            tt,
          )

  pub denies-hold : (asked : Need) → allows asked.write (permission_at old.switch.protect asked.page) ≡ false → (waits : Waits)
      → Holds setup m at.plan.blade at.blade (resumed_by waits Denied asked images h at.plan at.blade hart).noted
  denies-hold asked off Step =
      resumes-as (λ e. Holds setup m at.plan.blade at.blade e.noted) Denied asked images h at.plan at.blade hart nothing
      (λ image pc code runs just ready. refuses-hold asked off image pc code runs just ready)
  denies-hold asked off Drain = draining-hold hart.queue.stores refl
