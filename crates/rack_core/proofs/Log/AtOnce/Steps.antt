-- What a step and a drain of a hart do at once.
use Rattle.std.proofs.Common.{◌≡◌, inl, inr, ◌⊎◌, ℕ, Bool, true, false, ap, sym, refl, subst, List, [], ◌∷◌, ◌++◌, slice_get, Option, Some, None, ◌∙◌}
use Rattle.std.specs.Prelude.{if◌then◌else◌}
use Rattle.std.proofs.lemmas.Bool.{false≢true}
use Rattle.std.proofs.lemmas.Option.{same_Some}
use Rattle.mind_base.specs.Page.{PageView}
use Rattle.mind_base.specs.Pending.{PendingView}
use Rattle.mind_base.specs.Place.{place_of, page_at}
use Rattle.mind_base.specs.declared.commands.Perm.{Perm}
use Rattle.mind_base.specs.declared.ends.End.{End}
use Rattle.mind_base.specs.declared.ends.End.TheVariants.{Running, Exit, Fault}
use Rattle.mind_base.specs.declared.images.Image.{Image}
use Rattle.mind_base.specs.declared.notes.Note.{Note}
use Rattle.mind_base.specs.declared.notes.Note.TheVariants as note
use Rattle.mind_base.specs.declared.plans.ThreadPlan.{ThreadPlan}
use Rattle.hart_effect.specs.Deed.{Deed, found, carried_out, drains_first}
use Rattle.hart_effect.specs.declared.finds.Found.{Found}
use Rattle.page_cache.specs.PageCache.{frame_of, is_writable}
use Rattle.wire_msg.specs.declared.msgs.Msg.TheVariants.{Get}
use Rattle.compute_blade.specs.Blade.{HartView, BladeView, with_hart, is_asked, request_for, only}
use Rattle.compute_blade.specs.Frames.{around_held, thread_of}
use Rattle.compute_blade.specs.Messages.{need_asked}
use Rattle.compute_blade.specs.Steps.{need_in, serves, performed, performed_by, waiting, asking, drained, draining_by, drain_of, stepping_at, stepping_by, step_at}
use Rattle.compute_blade.specs.declared.kept.Asked.{Asked}
use Rattle.compute_blade.specs.declared.kept.Need.{Need}
use Rattle.compute_blade.specs.declared.kept.Waits.{Waits}
use Rattle.compute_blade.specs.declared.kept.Waits.TheVariants.{Step, Drain}
use Rattle.rack_core.specs.AtOnce.{access_in}
use Rattle.rack_core.proofs.Log.AtOnce.AtHand.{frames_at_hand}
use Rattle.rack_core.specs.BladeMoves.{hart_in, IsDrainRequest, IsRequest, IsRequestBy, IsSoundBlade}
use Rattle.rack_core.specs.Waits.{IsNeeded, IsNeededBy, IsNeededFor, IsNeededStep}
use Rattle.rack_core.proofs.Log.AtOnce.Finds.{found_out, at-hand-serves}
use Rattle.rack_core.proofs.Waits.GoOn.{carried}

-- ---- at most one note, which is the hart's

-- nothing is noted, or a label of hart h
abbrev pub NotesOne : ℕ → List Note → Type 0
NotesOne h noted = (noted ≡ []) ⊎ ((noted ≡ note.Exec h ∷ []) ⊎ (noted ≡ note.Drain h ∷ []))

nothing : (h : ℕ) (blade : BladeView) → NotesOne h (only blade).noted
nothing h blade = inl refl

performed-notes : (h : ℕ) (plan : ThreadPlan) (found : Found) (pc : ℕ) (blade : BladeView) (hart : HartView) → NotesOne h (performed h plan found pc blade hart).noted
performed-notes h plan found pc blade hart = by (carried_out found (around_held blade.cache.entries h plan.domain) pc (thread_of blade.cache.entries hart)) where
  by : (o : Option Deed) → NotesOne h (performed_by o h plan found blade hart).noted
  by None = inl refl
  by (Some deed) = inr (inl refl)

asking-notes : (h : ℕ) (waits : Waits) (need : Need) (blade : BladeView) (hart : HartView) → (asking h waits need blade hart).noted ≡ []
asking-notes h waits need blade hart = by (is_asked need.page blade.requests) where
  by : (b : Bool) → (if b then only blade else record {
    blade = with_hart h (waiting waits hart) (record blade { requests = blade.requests ++ record { page = need.page; write = need.write; hart = h; waits = waits } ∷ [] });
    sent = Get need.page need.write ∷ [];
    noted = [];
  }).noted ≡ []
  by true = refl
  by false = refl

-- a drain notes nothing, or that it took effect
abbrev pub NotesDrain : ℕ → List Note → Type 0
NotesDrain h noted = (noted ≡ []) ⊎ (noted ≡ note.Drain h ∷ [])

pub drain-alone : (h : ℕ) (noted : List Note) → NotesDrain h noted → NotesOne h noted
drain-alone h noted (inl e) = inl e
drain-alone h noted (inr e) = inr (inr e)

draining-notes : (h : ℕ) (plan : ThreadPlan) (stores : List PendingView) (blade : BladeView) (hart : HartView) → NotesDrain h (draining_by h plan stores blade hart).noted
draining-notes h plan [] blade hart = inl refl
draining-notes h plan (oldest ∷ newer) blade hart = by (is_writable (frame_of (page_at (place_of plan.domain oldest.address)) blade.cache.entries)) where
  by : (b : Bool) → NotesDrain h (if b then drained h plan oldest newer blade hart
      else asking h Drain (record { page = page_at (place_of plan.domain oldest.address); write = true }) blade hart).noted
  by true = inr refl
  by false = inl (asking-notes h Drain (record { page = page_at (place_of plan.domain oldest.address); write = true }) blade hart)

pub drain-notes : (h : ℕ) (plan : ThreadPlan) (blade : BladeView) (hart : HartView) → NotesDrain h (drain_of h plan blade hart).noted
drain-notes h plan blade hart = by hart.draining where
  by : (b : Bool) → NotesDrain h (if b then only blade else draining_by h plan hart.queue.stores blade hart).noted
  by true = inl refl
  by false = draining-notes h plan hart.queue.stores blade hart

stepping-notes : (need : Option Need) (h : ℕ) (plan : ThreadPlan) (found : Found) (pc : ℕ) (blade : BladeView) (hart : HartView) → NotesOne h (stepping_at need h plan found pc blade hart).noted
stepping-notes None h plan found pc blade hart = performed-notes h plan found pc blade hart
stepping-notes (Some need) h plan found pc blade hart = by (serves found (frame_of need.page blade.cache.entries)) where
  by : (b : Bool) → NotesOne h (if b then performed h plan found pc blade hart else asking h Step need blade hart).noted
  by true = performed-notes h plan found pc blade hart
  by false = inl (asking-notes h Step need blade hart)

pub step-notes : (end : End) (h : ℕ) (plan : ThreadPlan) (image : Image) (blade : BladeView) (hart : HartView) → NotesOne h (step_at end h plan image blade hart).noted
step-notes (Exit value) h plan image blade hart = inl refl
step-notes (Fault kind value pc) h plan image blade hart = inl refl
step-notes (Running pc) h plan image blade hart = by hart.stepping (drains_first (found image hart.regs pc) hart.queue.stores hart.queue.capacity) where
  by : (b c : Bool) → NotesOne h (if b then only blade else (if c then drain_of h plan blade hart
      else stepping_at (need_in (found image hart.regs pc) plan.domain) h plan (found image hart.regs pc) pc blade hart)).noted
  by true c = inl refl
  by false true = drain-alone h (drain_of h plan blade hart).noted (drain-notes h plan blade hart)
  by false false = stepping-notes (need_in (found image hart.regs pc) plan.domain) h plan (found image hart.regs pc) pc blade hart

-- ---- a hart that waits

-- a hart of a blade that runs, with what it comes upon
pub record Runs (images : List Image) (blade : BladeView) (h : ℕ) (plan : ThreadPlan) (image : Image) (pc : ℕ) (hart : HartView) : Type 0 where
  pub planned : slice_get blade.plan.threads h ≡ Some plan
  pub own : hart_in blade.harts h ≡ Some hart
  pub code : slice_get images plan.image ≡ Some image
  pub runs : hart.end ≡ Running pc

-- what its step waits for, where it waits
record NeedsPage (blade : BladeView) (found : Found) (plan : ThreadPlan) (hart : HartView) : Type 0 where
  need : Need
  needs : need_in found plan.domain ≡ Some need
  ready : drains_first found hart.queue.stores hart.queue.capacity ≡ false
  unserved : serves found (frame_of need.page blade.cache.entries) ≡ false

same_pc : (a b : ℕ) → (let x : End = Running a in x) ≡ Running b → a ≡ b
same_pc a b e = cc

needs_page : (images : List Image) (blade : BladeView) (h : ℕ) (plan : ThreadPlan) (image : Image) (pc : ℕ) (hart : HartView) (asked : Asked) → Runs images blade h plan image pc hart → asked.hart ≡ h
    → IsNeededStep images blade.plan.threads blade.harts blade.cache.entries asked → NeedsPage blade (found image hart.regs pc) plan hart
needs_page images blade h plan image pc hart asked at here n =
    let plan_is : n.plan ≡ plan = same_Some _ _ (sym n.thread ∙ ap (slice_get blade.plan.threads) here ∙ at.planned) in
    let hart_is : n.hart ≡ hart = same_Some _ _ (sym n.own ∙ ap (hart_in blade.harts) here ∙ at.own) in
    let image_is : n.image ≡ image = same_Some _ _ (sym n.code ∙ ap (λ (p : ThreadPlan). slice_get images p.image) plan_is ∙ at.code) in
    let pc_is : n.pc ≡ pc = same_pc n.pc pc (sym n.runs ∙ ap (λ (x : HartView). x.end) hart_is ∙ at.runs) in
    let finds : found n.image n.hart.regs n.pc ≡ found image hart.regs pc = λ i. found (image_is i) (hart_is i).regs (pc_is i) in
    record {
      need = need_asked asked;
      needs = (λ i. need_in (sym finds i) (sym plan_is i).domain) ∙ n.needs;
      ready = (λ i. drains_first (sym finds i) (sym hart_is i).queue.stores (sym hart_is i).queue.capacity) ∙ n.ready;
      unserved = ap (λ f. serves f (frame_of asked.page blade.cache.entries)) (sym finds) ∙ n.unserved;
    }

waits_for : (images : List Image) (perms : PageView → Perm) (blade : BladeView) (h : ℕ) (plan : ThreadPlan) (image : Image) (pc : ℕ) (hart : HartView) → IsSoundBlade perms blade → IsNeeded images blade
    → Runs images blade h plan image pc hart → hart.stepping ≡ true → NeedsPage blade (found image hart.regs pc) plan hart
waits_for images perms blade h plan image pc hart sound is at waits =
    let f = found_out (IsNeededFor images blade.plan.threads blade.harts blade.cache.entries) h Step blade.requests is.requests ((sound.waiting h hart at.own).step waits) in
    needs_page images blade h plan image pc hart f.asked at f.hart (subst (λ w. IsNeededBy w images blade.plan.threads blade.harts blade.cache.entries f.asked) f.waits f.is)

-- ---- an instruction is executed at once

performs : (h : ℕ) (plan : ThreadPlan) (found : Found) (pc : ℕ) (blade : BladeView) (hart : HartView) → drains_first found hart.queue.stores hart.queue.capacity ≡ false
    → (performed h plan found pc blade hart).noted ≡ note.Exec h ∷ []
performs h plan found pc blade hart ready =
    ap (λ o. (performed_by o h plan found blade hart).noted) (carried found (around_held blade.cache.entries h plan.domain) pc hart.queue.capacity (thread_of blade.cache.entries hart) ready).1

pub executes : (images : List Image) (perms : PageView → Perm) (blade : BladeView) (h : ℕ) (plan : ThreadPlan) (image : Image) (pc : ℕ) (hart : HartView) → IsSoundBlade perms blade → IsNeeded images blade
    → Runs images blade h plan image pc hart → drains_first (found image hart.regs pc) hart.queue.stores hart.queue.capacity ≡ false
    → frames_at_hand (λ page. frame_of page blade.cache.entries) (access_in (found image hart.regs pc) plan.domain) ≡ true
    → (step_at (Running pc) h plan image blade hart).noted ≡ note.Exec h ∷ []
executes images perms blade h plan image pc hart sound is at ready hand = by hart.stepping refl where
  finds : Found
  finds = found image hart.regs pc

  serving : (need : Need) → need_in finds plan.domain ≡ Some need → serves finds (frame_of need.page blade.cache.entries) ≡ true
  serving need e = at-hand-serves (λ page. frame_of page blade.cache.entries) finds plan.domain need hand e

  needing : (need : Option Need) → need_in finds plan.domain ≡ need → (stepping_at need h plan finds pc blade hart).noted ≡ note.Exec h ∷ []
  needing None e = performs h plan finds pc blade hart ready
  needing (Some need) e = ap (λ b. (if b then performed h plan finds pc blade hart else asking h Step need blade hart).noted) (serving need e) ∙ performs h plan finds pc blade hart ready

  by : (b : Bool) → hart.stepping ≡ b → (if b then only blade else stepping_by h plan (found image hart.regs pc) pc blade hart).noted ≡ note.Exec h ∷ []
  by true waits = let n = waits_for images perms blade h plan image pc hart sound is at waits in absurd (false≢true (sym n.unserved ∙ serving n.need n.needs))
  by false free = ap (λ b. (if b then drain_of h plan blade hart else stepping_at (need_in finds plan.domain) h plan finds pc blade hart).noted) ready ∙ needing (need_in finds plan.domain) refl

-- ---- the oldest store is drained at once

some_none : {X : Type 0} (x : X) → Some x ≡ None → ⊥
some_none x e = cc

-- no request is out for the page of the oldest store, where it is held to write
pub record IsFreeToDrain (blade : BladeView) (plan : ThreadPlan) (hart : HartView) (oldest : PendingView) (newer : List PendingView) : Type 0 where
  pub queue : hart.queue.stores ≡ oldest ∷ newer
  pub held : is_writable (frame_of (page_at (place_of plan.domain oldest.address)) blade.cache.entries) ≡ true
  pub unasked : request_for (page_at (place_of plan.domain oldest.address)) blade.requests ≡ None

-- so its drain does not wait
not-draining : (perms : PageView → Perm) (blade : BladeView) (h : ℕ) (plan : ThreadPlan) (hart : HartView) (oldest : PendingView) (newer : List PendingView) → IsSoundBlade perms blade
    → slice_get blade.plan.threads h ≡ Some plan → hart_in blade.harts h ≡ Some hart → IsFreeToDrain blade plan hart oldest newer → hart.draining ≡ true → ⊥
not-draining perms blade h plan hart oldest newer sound planned own free waits =
    let f = found_out (IsRequest blade.plan.threads blade.harts) h Drain blade.requests sound.requests ((sound.waiting h hart own).drain waits) in
    let r : IsDrainRequest blade.plan.threads blade.harts f.asked = subst (λ w. IsRequestBy w blade.plan.threads blade.harts f.asked) f.waits f.is in
    let plan_is : r.plan ≡ plan = same_Some _ _ (sym r.thread ∙ ap (slice_get blade.plan.threads) f.hart ∙ planned) in
    let hart_is : r.hart ≡ hart = same_Some _ _ (sym r.own ∙ ap (hart_in blade.harts) f.hart ∙ own) in
    let queues : r.oldest ∷ r.newer ≡ oldest ∷ newer = sym r.queue ∙ ap (λ (x : HartView). x.queue.stores) hart_is ∙ free.queue in
    let oldest_is : r.oldest ≡ oldest = cc in
    let page : f.asked.page ≡ page_at (place_of plan.domain oldest.address) = sym r.page ∙ (λ i. page_at (place_of (plan_is i).domain (oldest_is i).address)) in
    some_none f.other (sym f.out ∙ ap (λ q. request_for q blade.requests) page ∙ free.unasked)

pub drains : (perms : PageView → Perm) (blade : BladeView) (h : ℕ) (plan : ThreadPlan) (hart : HartView) (oldest : PendingView) (newer : List PendingView) → IsSoundBlade perms blade
    → slice_get blade.plan.threads h ≡ Some plan → hart_in blade.harts h ≡ Some hart → IsFreeToDrain blade plan hart oldest newer
    → (drain_of h plan blade hart).noted ≡ note.Drain h ∷ []
drains perms blade h plan hart oldest newer sound planned own free = by hart.draining refl where
  by : (b : Bool) → hart.draining ≡ b → (if b then only blade else draining_by h plan hart.queue.stores blade hart).noted ≡ note.Drain h ∷ []
  by true waits = absurd (not-draining perms blade h plan hart oldest newer sound planned own free waits)
  by false w = ap (λ stores. (draining_by h plan stores blade hart).noted) free.queue
      ∙ ap (λ b. (if b then drained h plan oldest newer blade hart else asking h Drain (record { page = page_at (place_of plan.domain oldest.address); write = true }) blade hart).noted)
      free.held

-- a step in which a store must drain first is its drain
pub step_drains : (images : List Image) (perms : PageView → Perm) (blade : BladeView) (h : ℕ) (plan : ThreadPlan) (image : Image) (pc : ℕ) (hart : HartView) (oldest : PendingView) (newer : List PendingView)
    → IsSoundBlade perms blade → IsNeeded images blade → Runs images blade h plan image pc hart → drains_first (found image hart.regs pc) hart.queue.stores hart.queue.capacity ≡ true
    → IsFreeToDrain blade plan hart oldest newer → (step_at (Running pc) h plan image blade hart).noted ≡ note.Drain h ∷ []
step_drains images perms blade h plan image pc hart oldest newer sound is at first free = by hart.stepping refl where
  by : (b : Bool) → hart.stepping ≡ b → (if b then only blade else stepping_by h plan (found image hart.regs pc) pc blade hart).noted ≡ note.Drain h ∷ []
  by true waits = let n = waits_for images perms blade h plan image pc hart sound is at waits in absurd (false≢true (sym n.ready ∙ first))
  by false w = ap (λ b. (if b then drain_of h plan blade hart else stepping_at (need_in (found image hart.regs pc) plan.domain) h plan (found image hart.regs pc) pc blade hart).noted) first
      ∙ drains perms blade h plan hart oldest newer sound at.planned at.own free
