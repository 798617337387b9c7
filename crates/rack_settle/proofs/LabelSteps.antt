-- A step and a drain of a hart whose blade owes nothing: what is noted and what is owed then is the hart's label.
use Rattle.std.proofs.Common.{◌≡◌, ◌≤◌, ℕ, ◌==◌, Bool, true, false, ◌&&◌, ◌||◌, ap, sym, refl, subst, List, [], ◌∷◌, ◌++◌, map, Option, Some, None, ◌∙◌, arith}
use Rattle.std.specs.Prelude.{if◌then◌else◌}
use Rattle.std.specs.Option.{option_to_list}
use Rattle.std.proofs.lemmas.Bool.{eqb-true}
use Rattle.mind_base.specs.Page.{PageView}
use Rattle.mind_base.specs.Pending.{PendingView}
use Rattle.mind_base.specs.Place.{place_of, page_at}
use Rattle.mind_base.specs.declared.commands.Perm.{Perm}
use Rattle.mind_base.specs.declared.ends.End.{End}
use Rattle.mind_base.specs.declared.ends.End.TheVariants.{Running, Exit, Fault}
use Rattle.mind_base.specs.declared.images.Image.{Image}
use Rattle.mind_base.specs.declared.notes.Note.TheVariants as note
use Rattle.mind_base.specs.declared.plans.ThreadPlan.{ThreadPlan}
use Rattle.hart_effect.specs.Deed.{found, drains_first, holds_stores, is_store, wants_empty}
use Rattle.hart_effect.specs.declared.finds.Found.{Found}
use Rattle.hart_effect.specs.declared.finds.Found.TheVariants.{Outside, Unknown, Asks}
use Rattle.page_cache.specs.PageCache.{frame_of, is_writable}
use Rattle.page_image.specs.PageImage.{PageImageView}
use Rattle.wire_msg.specs.declared.msgs.Msg.TheVariants.{Get}
use Rattle.compute_blade.specs.Blade.{HartView, BladeView, BladeEffect, with_hart, is_asked, only}
use Rattle.compute_blade.specs.Frames.{around_held, thread_of}
use Rattle.compute_blade.specs.Steps.{need_in, serves, performed, performed_by, waiting, asking, drained, draining_by, drain_of, stepping_at, stepping_by, step_at}
use Rattle.compute_blade.specs.declared.kept.Asked.{Asked}
use Rattle.compute_blade.specs.declared.kept.Need.{Need}
use Rattle.compute_blade.specs.declared.kept.Waits.{Waits}
use Rattle.compute_blade.specs.declared.kept.Waits.TheVariants.{Step, Drain}
use Rattle.tso_machine.specs.Replay.{labels}
use Rattle.tso_machine.specs.Scheduled.{label_at, running_label}
use Rattle.tso_machine.specs.declared.labels.Label.{Label}
use Rattle.tso_machine.specs.declared.labels.Label.TheVariants as label
use Rattle.rack_core.specs.BladeMoves.{hart_in, IsOut, IsSoundBlade}
use Rattle.rack_core.specs.Stands.{machine_thread}
use Rattle.rack_core.proofs.Callers.{carried}
use Rattle.rack_settle.specs.Labels.{owed_by, owed_for, waiting_label}
use Rattle.rack_settle.proofs.LabelMessages.{performed-left}

-- what the effect noted, and what its blade owes then
abbrev pub comes_of : BladeEffect → List Label
comes_of e = labels e.noted ++ owed_by e.blade

-- nothing is done by a blade that owes nothing
idle : (blade : BladeView) → blade.requests ≡ [] → comes_of (only blade) ≡ []
idle blade free = ap (map owed_for) free

-- the page is asked for, and what waits for it is owed
asks : (h : ℕ) (waits : Waits) (need : Need) (blade : BladeView) (hart : HartView) → blade.requests ≡ [] → comes_of (asking h waits need blade hart) ≡ waiting_label waits h ∷ []
asks h waits need blade hart free =
    ap (λ b. comes_of (if b then only blade else record {
      blade = with_hart h (waiting waits hart) (record blade { requests = blade.requests ++ record { page = need.page; write = need.write; hart = h; waits = waits } ∷ [] });
      sent = Get need.page need.write ∷ [];
      noted = [];
    })) (ap (is_asked need.page) free)
    ∙ ap (λ (requests : List Asked). map owed_for (requests ++ record { page = need.page; write = need.write; hart = h; waits = waits } ∷ [])) free

performs : (h : ℕ) (plan : ThreadPlan) (found : Found) (pc : ℕ) (blade : BladeView) (hart : HartView) → blade.requests ≡ [] → drains_first found hart.queue.stores hart.queue.capacity ≡ false
    → comes_of (performed h plan found pc blade hart) ≡ label.Exec h ∷ []
performs h plan found pc blade hart free ready =
    (λ i. labels (noted i) ++ map owed_for (left i))
  where
    noted : (performed h plan found pc blade hart).noted ≡ note.Exec h ∷ []
    noted = ap (λ o. (performed_by o h plan found blade hart).noted) (carried found (around_held blade.cache.entries h plan.domain) pc hart.queue.capacity (thread_of blade.cache.entries hart) ready).1

    left : (performed h plan found pc blade hart).blade.requests ≡ []
    left = performed-left h plan found pc blade hart ∙ free

-- ---- a drain

drains : (h : ℕ) (plan : ThreadPlan) (stores : List PendingView) (blade : BladeView) (hart : HartView) → blade.requests ≡ []
    → comes_of (draining_by h plan stores blade hart) ≡ option_to_list (if holds_stores stores then Some (label.Drain h) else None)
drains h plan [] blade hart free = idle blade free
drains h plan (oldest ∷ newer) blade hart free = by (is_writable (frame_of (page_at (place_of plan.domain oldest.address)) blade.cache.entries)) where
  by : (b : Bool) → comes_of (if b then drained h plan oldest newer blade hart
      else asking h Drain (record { page = page_at (place_of plan.domain oldest.address); write = true }) blade hart) ≡ label.Drain h ∷ []
  by true = ap (λ (requests : List Asked). label.Drain h ∷ map owed_for requests) free
  by false = asks h Drain (record { page = page_at (place_of plan.domain oldest.address); write = true }) blade hart free

-- no hart waits where no request is out
awake : (perms : PageView → Perm) (blade : BladeView) (h : ℕ) (hart : HartView) → IsSoundBlade perms blade → blade.requests ≡ [] → hart_in blade.harts h ≡ Some hart
    → (hart.stepping ≡ false) × (hart.draining ≡ false)
awake perms blade h hart sound free own = (by hart.stepping Step (sound.waiting h hart own).step, by hart.draining Drain (sound.waiting h hart own).drain) where
  by : (b : Bool) (waits : Waits) → (b ≡ true → IsOut h waits blade.requests) → b ≡ false
  by false waits out = refl
  by true waits out = absurd (subst (IsOut h waits) free (out refl))

pub drain-comes : (perms : PageView → Perm) (blade : BladeView) (h : ℕ) (plan : ThreadPlan) (hart : HartView) → IsSoundBlade perms blade → blade.requests ≡ [] → hart_in blade.harts h ≡ Some hart
    → comes_of (drain_of h plan blade hart) ≡ option_to_list (if holds_stores hart.queue.stores then Some (label.Drain h) else None)
drain-comes perms blade h plan hart sound free own =
    ap (λ b. comes_of (if b then only blade else draining_by h plan hart.queue.stores blade hart)) (awake perms blade h hart sound free own).1 ∙ drains h plan hart.queue.stores blade hart free

-- ---- a step

-- a hart whose oldest store must drain first buffers a store, where its queue has a place
buffers : (found : Found) (stores : List PendingView) (places : ℕ) → 1 ≤ places → drains_first found stores places ≡ true → holds_stores stores ≡ true
buffers found (store ∷ stores) places some e = refl
buffers Outside [] places some e = e
buffers (Unknown word) [] places some e = e
buffers (Asks asked) [] places some e = by (wants_empty asked) (is_store asked) (0 == places) refl e where
  by : (wants store none : Bool) → (0 == places) ≡ none → ((wants && false) || store && none) ≡ true → false ≡ true
  by true true true n e = let is = eqb-true 0 places n in let never : ⊥ = omega (arith, some, is) in absurd never
  by false true true n e = let is = eqb-true 0 places n in let never : ⊥ = omega (arith, some, is) in absurd never
  by true true false n e = e
  by false true false n e = e
  by true false b n e = e
  by false false b n e = e

needs : (h : ℕ) (plan : ThreadPlan) (found : Found) (pc : ℕ) (blade : BladeView) (hart : HartView) → blade.requests ≡ [] → drains_first found hart.queue.stores hart.queue.capacity ≡ false
    → (need : Option Need) → comes_of (stepping_at need h plan found pc blade hart) ≡ label.Exec h ∷ []
needs h plan found pc blade hart free ready None = performs h plan found pc blade hart free ready
needs h plan found pc blade hart free ready (Some need) = by (serves found (frame_of need.page blade.cache.entries)) where
  by : (b : Bool) → comes_of (if b then performed h plan found pc blade hart else asking h Step need blade hart) ≡ label.Exec h ∷ []
  by true = performs h plan found pc blade hart free ready
  by false = asks h Step need blade hart free

-- a hart of a blade that owes nothing, whose queue has as many places as its thread's plan says
pub record IsFree (perms : PageView → Perm) (blade : BladeView) (h : ℕ) (plan : ThreadPlan) (hart : HartView) : Type 0 where
  pub sound : IsSoundBlade perms blade
  pub free : blade.requests ≡ []
  pub own : hart_in blade.harts h ≡ Some hart
  pub places : hart.queue.capacity ≡ plan.queue
  pub some : 1 ≤ plan.queue

pub step-comes : (perms : PageView → Perm) (blade : BladeView) (h : ℕ) (plan : ThreadPlan) (image : Image) (hart : HartView) (flat : PageView → PageImageView) → IsFree perms blade h plan hart → (end : End)
    → comes_of (step_at end h plan image blade hart) ≡ option_to_list (label_at end image (machine_thread flat hart) plan.queue h)
step-comes perms blade h plan image hart flat is (Exit value) = idle blade is.free
step-comes perms blade h plan image hart flat is (Fault kind value pc) = idle blade is.free
step-comes perms blade h plan image hart flat is (Running pc) =
    ap (λ b. comes_of (if b then only blade else stepping_by h plan finds pc blade hart)) (awake perms blade h hart is.sound is.free is.own).0
    ∙ by (drains_first finds hart.queue.stores hart.queue.capacity) refl
    ∙ ap (λ places. running_label (drains_first finds hart.queue.stores places) h ∷ []) is.places
  where
    finds : Found
    finds = found image hart.regs pc

    by : (b : Bool) → drains_first finds hart.queue.stores hart.queue.capacity ≡ b
        → comes_of (if b then drain_of h plan blade hart else stepping_at (need_in finds plan.domain) h plan finds pc blade hart) ≡ running_label b h ∷ []
    by true e = drain-comes perms blade h plan hart is.sound is.free is.own
        ∙ ap (λ b. option_to_list (if b then Some (label.Drain h) else None)) (buffers finds hart.queue.stores hart.queue.capacity (subst (λ places. 1 ≤ places) (sym is.places) is.some) e)
    by false e = needs h plan finds pc blade hart is.free e (need_in finds plan.domain)
