-- What waited goes on when its request is answered.
use Rattle.std.proofs.Common.{◌≡◌, ℕ, ◌==◌, Bool, true, false, not, ◌&&◌, ◌||◌, ap, sym, refl, List, [], ◌∷◌, ◌++◌, length, slice_get, Some, None, option_map, ◌∙◌}
use Rattle.std.specs.Prelude.{if◌then◌else◌, unwrap_or}
use Rattle.std.specs.Bool.{beq}
use Rattle.std.proofs.lemmas.Bool.{and_from}
use Rattle.std.proofs.lemmas.List.Elements.{filter_map-append}
use Rattle.mind_base.specs.Page.{PageView}
use Rattle.mind_base.specs.declared.commands.Perm.{Perm}
use Rattle.mind_base.specs.declared.images.Image.{Image}
use Rattle.mind_base.specs.declared.notes.Note.TheVariants as note
use Rattle.mind_base.specs.declared.plans.ThreadPlan.{ThreadPlan}
use Rattle.hart_core.specs.declared.outcome.Act.{Act}
use Rattle.hart_core.specs.declared.outcome.Act.TheVariants as act
use Rattle.hart_effect.specs.Access.{Around}
use Rattle.hart_effect.specs.Deed.{Deed, found, acted, carried_out, drains_first, must_wait, is_store}
use Rattle.hart_effect.specs.Thread.{Thread}
use Rattle.hart_effect.specs.declared.finds.Found.{Found}
use Rattle.hart_effect.specs.declared.finds.Found.TheVariants.{Outside, Unknown, Asks}
use Rattle.page_cache.proofs.Callers.{same_page-refl}
use Rattle.page_cache.specs.PageCache.{entries_after_put, put_of}
use Rattle.page_cache.specs.declared.frames.Frame.{Frame}
use Rattle.page_image.specs.PageImage.{PageImageView}
use Rattle.protect_table.specs.Protect.{permission_at}
use Rattle.wire_msg.specs.declared.msgs.Msg.TheVariants.{Fill, Deny}
use Rattle.compute_blade.specs.Blade.{HartView, BladeView, BladeEffect, with_hart, with_frames, request_for, requests_without, only}
use Rattle.compute_blade.specs.Denials.{denial_in, refused_by}
use Rattle.compute_blade.specs.Frames.{around_held, thread_of}
use Rattle.compute_blade.specs.Messages.{after_message, answered_by, awake, need_asked, needs_just, resumed, resumed_at, resumed_by, resumed_for, resumed_with}
use Rattle.compute_blade.specs.Pages.{noted_out}
use Rattle.compute_blade.specs.Steps.{need_in, performed_by}
use Rattle.compute_blade.specs.declared.kept.Answer.{Answer}
use Rattle.compute_blade.specs.declared.kept.Answer.TheVariants.{Filled, Denied}
use Rattle.compute_blade.specs.declared.kept.Asked.{Asked}
use Rattle.compute_blade.specs.declared.kept.Denial.{Denial}
use Rattle.compute_blade.specs.declared.kept.Need.{Need}
use Rattle.compute_blade.specs.declared.kept.Waits.{Waits}
use Rattle.compute_blade.specs.declared.kept.Waits.TheVariants.{Step, Drain}
use Rattle.tso_machine.specs.Replay.{labels, label_of}
use Rattle.tso_machine.specs.declared.labels.Label.TheVariants as label
use Rattle.rack_core.specs.BladeMoves.{IsRequest, IsSoundBlade}
use Rattle.rack_core.specs.Rack.{RackView}
use Rattle.rack_core.specs.Safe.{IsSafe}
use Rattle.rack_core.specs.Waits.{IsNeeded, IsNeededBy, IsNeededFor, IsNeededStep, AreNeeded, IsResumed, woken_for}
use Rattle.rack_core.proofs.Moves.Blade.Fills.{Ends, awaking, resumed-is}
use Rattle.rack_core.proofs.Moves.Blade.Sound.{of_found}
use Rattle.rack_core.proofs.Lists.Lookups.{Entries}
use Rattle.rack_core.proofs.Machine.Mids.{taken-silent}

-- ---- what may be done is done

-- an instruction is performed where no store must drain first
pub carried : (found : Found) (around : Around) (pc places : ℕ) (thread : Thread) → drains_first found thread.buffer places ≡ false → (deed : Deed) × (carried_out found around pc thread ≡ Some deed)
carried Outside around pc places thread ready = (_, refl)
carried (Unknown word) around pc places thread ready = (_, refl)
carried (Asks asked) around pc places thread ready = by (must_wait asked thread.buffer) (is_store asked && length thread.buffer == places) ready where
  by : (wait full : Bool) → (wait || full) ≡ false → (deed : Deed) × ((if wait then None else Some (acted asked around pc thread)) ≡ Some deed)
  by true full e = let never : ⊥ = cc in absurd never
  by false full e = (acted asked around pc thread, refl)

-- an instruction that needs a page may be denied it
deniable : (asked : Act) (domain : ℕ) (need : Need) → need_in (Asks asked) domain ≡ Some need → (denial : Denial) × (denial_in (Asks asked) ≡ Some denial)
deniable (act.Load kind rd address) domain need e = (_, refl)
deniable (act.Store size address value) domain need e = (_, refl)
deniable (act.Locked kind rd address operand) domain need e = (_, refl)
deniable (act.Next rd value pc) domain need e = let never : ⊥ = cc in absurd never
deniable (act.Fence drains) domain need e = let never : ⊥ = cc in absurd never
deniable act.Call domain need e = let never : ⊥ = cc in absurd never
deniable (act.Jumped target) domain need e = let never : ⊥ = cc in absurd never
deniable act.Broke domain need e = let never : ⊥ = cc in absurd never

denied : (found : Found) (domain : ℕ) (need : Need) → need_in found domain ≡ Some need → (denial : Denial) × (denial_in found ≡ Some denial)
denied Outside domain need e = let never : ⊥ = cc in absurd never
denied (Unknown word) domain need e = let never : ⊥ = cc in absurd never
denied (Asks asked) domain need e = deniable asked domain need e

-- either notes the step
answered-notes : (answer : Answer) (h : ℕ) (plan : ThreadPlan) (found : Found) (pc : ℕ) (blade : BladeView) (hart : HartView) (need : Need) → need_in found plan.domain ≡ Some need
    → drains_first found hart.queue.stores hart.queue.capacity ≡ false → (answered_by answer h plan found pc blade hart).noted ≡ note.Exec h ∷ []
answered-notes Filled h plan found pc blade hart need needs ready =
    let c = carried found (around_held blade.cache.entries h plan.domain) pc hart.queue.capacity (thread_of blade.cache.entries hart) ready in
    ap (λ o. (performed_by o h plan found blade hart).noted) c.1
answered-notes Denied h plan found pc blade hart need needs ready = ap (λ o. (refused_by o h pc blade hart).noted) (denied found plan.domain need needs).1

-- ---- the step that waited

beq-refl : (b : Bool) → beq b b ≡ true
beq-refl true = refl
beq-refl false = refl

-- what is needed is just what was asked for
needs-itself : (need : Need) → needs_just need (Some need) ≡ true
needs-itself need = and_from _ _ (same_page-refl need.page) (beq-refl need.write)

-- where the step that waits is needed, the test is true
step_resumes : (answer : Answer) (images : List Image) (asked : Asked) (blade : BladeView) (before : Entries) (b : BladeView) → (n : IsNeededStep images blade.plan.threads blade.harts before asked)
    → resumed_by Step answer (need_asked asked) images asked.hart n.plan b (awake Step n.hart)
    ≡ answered_by answer asked.hart n.plan (found n.image n.hart.regs n.pc) n.pc b (awake Step n.hart)
step_resumes answer images asked blade before b n =
    ap (λ end. resumed_at end answer (need_asked asked) images asked.hart n.plan b hart) n.runs
    ∙ ap (λ o. unwrap_or (option_map (λ image. resumed_with answer (need_asked asked) asked.hart n.plan (found image hart.regs n.pc) n.pc b hart) o) (only b)) n.code
    ∙ ap (λ t. if t then answered_by answer asked.hart n.plan (found n.image hart.regs n.pc) n.pc b hart else only b) test
  where
    hart : HartView
    hart = awake Step n.hart

    test : (needs_just (need_asked asked) (need_in (found n.image n.hart.regs n.pc) n.plan.domain)
        && not (drains_first (found n.image n.hart.regs n.pc) n.hart.queue.stores n.hart.queue.capacity)) ≡ true
    test = and_from _ _ (ap (needs_just (need_asked asked)) n.needs ∙ needs-itself (need_asked asked)) (ap not n.ready)

pub resumes : (answer : Answer) (images : List Image) (perms : PageView → Perm) (blade : BladeView) (page : PageView) (asked : Asked) (entries : Entries) → IsSoundBlade perms blade → IsNeeded images blade
    → request_for page blade.requests ≡ Some asked → asked.waits ≡ Step → IsResumed answer images asked (with_frames blade entries)
unfolding awaking
resumes answer images perms blade page asked entries sound is out step = by asked.waits refl (of_found (IsNeededFor images blade.plan.threads blade.harts blade.cache.entries) page blade.requests asked is.requests out).0 where
  mid : BladeView
  mid = with_frames blade entries

  needed : asked.waits ≡ Step → IsNeededStep images blade.plan.threads blade.harts blade.cache.entries asked → IsResumed answer images asked mid
  needed waits n =
      let hart = n.hart in
      let ends : Ends mid asked n.plan hart = record { thread = n.thread; own = n.own; request = (of_found (IsRequest blade.plan.threads blade.harts) page blade.requests asked sound.requests out).0 } in
      let does : resumed answer images asked mid ≡ answered_by answer asked.hart n.plan (found n.image hart.regs n.pc) n.pc (woken_for asked hart mid) (awake Step hart) =
      resumed-is answer images asked mid n.plan hart ends
      ∙ ap (λ w. resumed_by w answer (need_asked asked) images asked.hart n.plan (with_hart asked.hart (awake w hart) (record mid { requests = requests_without asked.page mid.requests })) (awake w hart)) waits
      ∙ step_resumes answer images asked blade blade.cache.entries (woken_for asked hart mid) n in
      record {
        waiting = n.waiting;
        does = does;
        label = ap (λ (e : BladeEffect). e.noted) does
            ∙ answered-notes answer asked.hart n.plan (found n.image hart.regs n.pc) n.pc (woken_for asked hart mid) (awake Step hart) (need_asked asked) n.needs n.ready;
      }

  by : (waits : Waits) → asked.waits ≡ waits → IsNeededBy waits images blade.plan.threads blade.harts blade.cache.entries asked → IsResumed answer images asked mid
  by Step waits n = needed waits n
  by Drain waits n = let never : Drain ≡ Step = sym waits ∙ step in let never : ⊥ = cc in absurd never

-- ---- messages

fill_performs : (images : List Image) (perms : PageView → Perm) (blade : BladeView) (page : PageView) (perm : Perm) (writable : Bool) (image : PageImageView) (asked : Asked) → IsSoundBlade perms blade
    → IsNeeded images blade → request_for page blade.requests ≡ Some asked → asked.waits ≡ Step → labels (after_message images (Fill page perm writable image) blade).noted ≡ label.Exec asked.hart ∷ []
fill_performs images perms blade page perm writable image asked sound is out step =
    let frame : Frame = record { image = image; writable = writable; dirty = false; perm = perm } in
    let mid : BladeView = with_frames blade (entries_after_put blade.cache page frame) in
    let first = noted_out blade.number (put_of blade.cache page) ++ note.Take blade.number page writable ∷ [] in
    let goes = resumes Filled images perms blade page asked (entries_after_put blade.cache page frame) sound is out step in
    filter_map-append label_of first (resumed_for Filled images (request_for page blade.requests) mid).noted
    ∙ ap (λ front. front ++ labels (resumed_for Filled images (request_for page blade.requests) mid).noted) (taken-silent blade.number page writable (put_of blade.cache page))
    ∙ ap (λ o. labels (resumed_for Filled images o mid).noted) out
    ∙ ap labels goes.label

deny_refuses : (images : List Image) (perms : PageView → Perm) (blade : BladeView) (page : PageView) (asked : Asked) → IsSoundBlade perms blade
    → IsNeeded images blade → request_for page blade.requests ≡ Some asked → asked.waits ≡ Step → labels (after_message images (Deny page) blade).noted ≡ label.Exec asked.hart ∷ []
deny_refuses images perms blade page asked sound is out step =
    let goes = resumes Denied images perms blade page asked blade.cache.entries sound is out step in
    ap (λ o. labels (resumed_for Denied images o blade).noted) out ∙ ap labels goes.label

-- ---- in a rack

pub rack_resumes : (answer : Answer) (images : List Image) (rack : RackView) (c : ℕ) (blade : BladeView) (page : PageView) (asked : Asked) (entries : Entries) → IsSafe rack → AreNeeded images rack
    → slice_get rack.blades c ≡ Some blade → request_for page blade.requests ≡ Some asked → asked.waits ≡ Step → IsResumed answer images asked (with_frames blade entries)
rack_resumes answer images rack c blade page asked entries safe all there out step =
    resumes answer images (permission_at rack.switch.protect) blade page asked entries (safe.sound.blades c blade there) (all c blade there) out step

pub rack_fills : (images : List Image) (rack : RackView) (c : ℕ) (blade : BladeView) (page : PageView) (asked : Asked) (perm : Perm) (writable : Bool) (content : PageImageView) → IsSafe rack → AreNeeded images rack
    → slice_get rack.blades c ≡ Some blade → request_for page blade.requests ≡ Some asked → asked.waits ≡ Step
    → labels (after_message images (Fill page perm writable content) blade).noted ≡ label.Exec asked.hart ∷ []
rack_fills images rack c blade page asked perm writable content safe all there out step =
    fill_performs images (permission_at rack.switch.protect) blade page perm writable content asked (safe.sound.blades c blade there) (all c blade there) out step

pub rack_denies : (images : List Image) (rack : RackView) (c : ℕ) (blade : BladeView) (page : PageView) (asked : Asked) → IsSafe rack → AreNeeded images rack
    → slice_get rack.blades c ≡ Some blade → request_for page blade.requests ≡ Some asked → asked.waits ≡ Step → labels (after_message images (Deny page) blade).noted ≡ label.Exec asked.hart ∷ []
rack_denies images rack c blade page asked safe all there out step =
    deny_refuses images (permission_at rack.switch.protect) blade page asked (safe.sound.blades c blade there) (all c blade there) out step
