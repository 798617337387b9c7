-- The reservation of a hart after its deed stands for that of its thread after the same deed, so the machine's thread
-- is again that of the hart.
use Rattle.std.proofs.Common.{◌≡◌, ℕ, ◌%◌, ◌==◌, Bool, true, false, ap, sym, refl, ◌++◌, map, slice_get, slice_set, Option, Some, None, subst, ◌∙◌}
use Rattle.std.specs.Prelude.{if◌then◌else◌, option_map}
use Rattle.std.proofs.lemmas.Bool.{eq-eqb}
use Rattle.std.proofs.lemmas.List.{map-set}
use Rattle.std.proofs.lemmas.Option.{same_Some}
use Rattle.mind_base.specs.Page.{PageView}
use Rattle.mind_base.specs.declared.commands.Perm.{Perm}
use Rattle.mind_base.specs.declared.ends.End.TheVariants.{Running, Exit}
use Rattle.mind_base.specs.declared.ends.FaultKind.{FaultKind}
use Rattle.mind_base.specs.declared.ends.FaultKind.TheVariants as fault
use Rattle.mind_base.specs.declared.images.Image.{Image}
use Rattle.hart_core.specs.Memory.{load_size}
use Rattle.hart_core.specs.Registers.{register}
use Rattle.hart_core.specs.Values.{word_sum}
use Rattle.hart_core.specs.declared.outcome.Act.{Act}
use Rattle.hart_core.specs.declared.outcome.Act.TheVariants as act
use Rattle.hart_core.specs.declared.outcome.LockedKind.TheVariants as locked
use Rattle.hart_effect.specs.Access.{denied}
use Rattle.hart_effect.specs.Deed.{Deed, Alone, Storing, found, acted, carried_out, called, faulted, put_out, continued, unless_denied, stored_if, holds_reservation, must_wait, reserving}
use Rattle.mind_base.specs.Place.{place_of, page_at, page_with, granule_at, Granule}
use Rattle.mind_base.specs.Permission.{may_read, may_write}
use Rattle.hart_effect.specs.Thread.{Thread}
use Rattle.hart_effect.specs.declared.finds.Found.{Found}
use Rattle.hart_effect.specs.declared.finds.Found.TheVariants.{Outside, Unknown, Asks}
use Rattle.page_image.specs.PageImage.{PageImageView, tag_at}
use Rattle.compute_blade.specs.Blade.{HartView}
use Rattle.compute_blade.specs.Frames.{around_held, held_perm, held_tag, tag_in, thread_of}
use Rattle.compute_blade.specs.Steps.{kept_after, kept_by, hart_after}
use Rattle.compute_blade.specs.declared.kept.Reservation.{Reservation}
use Rattle.tso_machine.specs.State.{Setup, State}
use Rattle.tso_machine.specs.Step.{done_by, after_exec, reservation_off, thread_off, bytes_of}
use Rattle.rack_core.specs.Rack.{RackView}
use Rattle.rack_core.specs.Stands.{IsHartAt, RackStandsFor, machine_thread, reserved_in}
use Rattle.rack_core.proofs.Machine.Deeds.{HoldAlike, deed_with, reserved_after}
use Rattle.rack_core.proofs.Machine.Harts.{Entries, IsHeld, HoldsFor, page_with-at, hold-found, exec-stands}

-- The hart's reservation after a deed stands for the thread's; where a store takes effect at once, they are alike
-- but for a reservation on its granule, which ends.
unfoldable pub KeepsAlike : (PageView → PageImageView) → Entries → Found → ℕ → Option Reservation → Deed → Type 0
KeepsAlike flat entries found domain kept (Alone thread) =
    reserved_in flat (kept_after found domain entries thread.end kept) ≡ reserved_after found domain thread.end (reserved_in flat kept)
KeepsAlike flat entries found domain kept (Storing thread store) =
    reservation_off (granule_at (place_of domain store.address)) (reserved_in flat (kept_after found domain entries thread.end kept))
    ≡ reservation_off (granule_at (place_of domain store.address)) (reserved_in flat kept)

-- an access is denied, or done at a multiple of its size
unless-done : (P : Deed → Type 0) (kind : FaultKind) (allows : Perm → Bool) (perm : PageView → Perm) (domain address size pc : ℕ) (thread : Thread) (deed : Deed)
    → ((kind : FaultKind) → P (Alone (faulted kind address pc thread))) → ((address % size == 0) ≡ true → P deed)
    → P (unless_denied (denied kind allows perm domain address size) address pc thread deed)
unless-done P kind allows perm domain address size pc thread deed faults given = by (address % size == 0) refl (allows (perm (page_at (place_of domain address)))) where
  by : (a : Bool) → (address % size == 0) ≡ a → (b : Bool)
      → P (unless_denied (if a then (if b then None else Some kind) else Some fault.Align) address pc thread deed)
  by true e true = given e
  by true e false = faults kind
  by false e b = faults fault.Align

-- LR keeps its granule with the tag of the newest image
keeps-reserved : (rack : RackView) (flat : PageView → PageImageView) (entries : Entries) (domain address : ℕ) → IsHeld rack flat entries (page_with (granule_at (place_of domain address)))
    → (kept : Option Reservation)
    → reserved_in flat (kept_by locked.Lr (held_tag entries (granule_at (place_of domain address))) domain address kept) ≡ Some (granule_at (place_of domain address))
keeps-reserved rack flat entries domain address held kept =
    ap (λ frame. reserved_in flat (kept_by locked.Lr (tag_in frame granule) domain address kept)) held.held
    ∙ ap (λ image. if tag_at (flat (page_with granule)) (granule.number % 64) == tag_at image (granule.number % 64) then Some granule else None) held.newest
    ∙ ap (λ b. if b then Some granule else None) (eq-eqb (tag_at (flat (page_with granule)) (granule.number % 64)) _ refl) where
      granule : Granule
      granule = granule_at (place_of domain address)

-- a reservation that is held on the granule ends
off-held : (reserved : Option Granule) (granule : Granule) → holds_reservation reserved granule ≡ true → reservation_off granule reserved ≡ None
off-held None granule e = refl
off-held (Some reserved) granule e = ap (λ b. if b then None else Some reserved) e

keeps-called : (flat : PageView → PageImageView) (entries : Entries) (domain : ℕ) (kept : Option Reservation) (number a0 hart pc : ℕ) (thread : Thread)
    → KeepsAlike flat entries (Asks act.Call) domain kept (Alone (called number a0 hart pc thread))
unfolding KeepsAlike
keeps-called flat entries domain kept number a0 hart pc thread = by (number == 1) (number == 2) (number == 3) where
  by : (a b c : Bool) → KeepsAlike flat entries (Asks act.Call) domain kept (Alone (if a then put_out (a0 % 256) pc thread
      else (if b then record thread { end = Exit a0 } else (if c then continued 10 hart (word_sum pc 4) thread else faulted fault.Call number pc thread))))
  by true b c = refl
  by false true c = refl
  by false false true = refl
  by false false false = refl

keeps-acted : (rack : RackView) (flat : PageView → PageImageView) (entries : Entries) (asked : Act) (h domain pc : ℕ) (kept : Option Reservation) (thread : Thread)
    → HoldsFor rack flat entries (Asks asked) domain → HoldAlike (Asks asked) domain (reserved_in flat kept) thread.reserved
    → KeepsAlike flat entries (Asks asked) domain kept (acted asked (around_held entries h domain) pc thread)
unfolding KeepsAlike
keeps-acted rack flat entries (act.Next rd value next) h domain pc kept thread holds hold = refl
keeps-acted rack flat entries (act.Load kind rd address) h domain pc kept thread holds hold =
    unless-done (KeepsAlike flat entries (Asks (act.Load kind rd address)) domain kept) fault.Load may_read (held_perm entries) domain address (load_size kind) pc thread _
    (λ kind. refl) (λ e. refl)
keeps-acted rack flat entries (act.Store size address value) h domain pc kept thread holds hold =
    unless-done (KeepsAlike flat entries (Asks (act.Store size address value)) domain kept) fault.Store may_write (held_perm entries) domain address size pc thread _
    (λ kind. refl) (λ e. refl)
keeps-acted rack flat entries (act.Locked locked.Lr rd address operand) h domain pc kept thread holds hold =
    unless-done (KeepsAlike flat entries (Asks (act.Locked locked.Lr rd address operand)) domain kept) fault.Load may_read (held_perm entries) domain address 4 pc thread _
    (λ kind. refl)
    (λ e. keeps-reserved rack flat entries domain address (subst (IsHeld rack flat entries) (sym (page_with-at domain address))
    (holds (record { page = page_at (place_of domain address); write = false })
    (ap (λ b. if b then Some (record { page = page_at (place_of domain address); write = false }) else None) e))) kept)
keeps-acted rack flat entries (act.Locked locked.Sc rd address operand) h domain pc kept thread holds hold =
    unless-done (KeepsAlike flat entries (Asks (act.Locked locked.Sc rd address operand)) domain kept) fault.Store may_write (held_perm entries) domain address 4 pc thread _
    (λ kind. refl) (λ e. by (holds_reservation thread.reserved (granule_at (place_of domain address))) (hold rd address operand refl e)) where
      by : (b : Bool) → holds_reservation (reserved_in flat kept) (granule_at (place_of domain address)) ≡ b
          → KeepsAlike flat entries (Asks (act.Locked locked.Sc rd address operand)) domain kept (stored_if b rd address operand pc thread)
      by true e = sym (off-held (reserved_in flat kept) (granule_at (place_of domain address)) e)
      by false e = refl
keeps-acted rack flat entries (act.Locked (locked.Amo kind) rd address operand) h domain pc kept thread holds hold =
    unless-done (KeepsAlike flat entries (Asks (act.Locked (locked.Amo kind) rd address operand)) domain kept) fault.Store may_write (held_perm entries) domain address 4 pc thread _
    (λ kind. refl) (λ e. refl)
keeps-acted rack flat entries (act.Fence drains) h domain pc kept thread holds hold = refl
keeps-acted rack flat entries act.Call h domain pc kept thread holds hold = keeps-called flat entries domain kept (register thread.regs 17) (register thread.regs 10) h pc thread
keeps-acted rack flat entries (act.Jumped target) h domain pc kept thread holds hold = refl
keeps-acted rack flat entries act.Broke h domain pc kept thread holds hold = refl

keeps-found : (rack : RackView) (flat : PageView → PageImageView) (entries : Entries) (found : Found) (h domain pc : ℕ) (kept : Option Reservation) (thread : Thread)
    → HoldsFor rack flat entries found domain → HoldAlike found domain (reserved_in flat kept) thread.reserved
    → (deed : Deed) → carried_out found (around_held entries h domain) pc thread ≡ Some deed → KeepsAlike flat entries found domain kept deed
unfolding KeepsAlike
keeps-found rack flat entries Outside h domain pc kept thread holds hold deed e = subst (KeepsAlike flat entries Outside domain kept) (same_Some _ _ e) refl
keeps-found rack flat entries (Unknown word) h domain pc kept thread holds hold deed e = subst (KeepsAlike flat entries (Unknown word) domain kept) (same_Some _ _ e) refl
keeps-found rack flat entries (Asks asked) h domain pc kept thread holds hold deed e = by (must_wait asked thread.buffer) e where
  by : (b : Bool) → (if b then None else Some (acted asked (around_held entries h domain) pc thread)) ≡ Some deed → KeepsAlike flat entries (Asks asked) domain kept deed
  by true e = let never : ⊥ = cc in absurd never
  by false e = subst (KeepsAlike flat entries (Asks asked) domain kept) (same_Some _ _ e) (keeps-acted rack flat entries asked h domain pc kept thread holds hold)

-- ---- the thread after a deed

-- the deed with this thread in place of its own
abbrev pub by_thread : Thread → Deed → Deed
by_thread new (Alone thread) = Alone new
by_thread new (Storing thread store) = Storing new store

-- the machine's deed is that of the hart as it is afterwards
done-alike : (flat : PageView → PageImageView) (entries : Entries) (found : Found) (h domain : ℕ) (m : State) (hart : HartView) (deed : Deed) → KeepsAlike flat entries found domain hart.reserved deed
    → done_by h domain m (deed_with found domain (reserved_in flat hart.reserved) deed)
    ≡ done_by h domain m (by_thread (machine_thread flat (hart_after domain found entries hart deed)) deed)
unfolding KeepsAlike
done-alike flat entries found h domain m hart (Alone thread) keeps = ap (λ r. done_by h domain m (Alone (reserving r thread))) (sym keeps)
done-alike flat entries found h domain m hart (Storing thread store) keeps =
    ap (λ threads. record m { threads = threads; writes = m.writes ++ bytes_of domain store })
    (map-set off m.threads h (reserving (reserved_in flat hart.reserved) thread)
    ∙ ap (λ r. slice_set (map off m.threads) h (reserving r thread)) (sym keeps)
    ∙ sym (map-set off m.threads h (machine_thread flat (hart_after domain found entries hart (Storing thread store))))) where
      off : Thread → Thread
      off = thread_off (granule_at (place_of domain store.address))

-- A machine made from the rack's plan, in a state that the rack stands for, executes a hart's thread as the blade
-- performs it, and the thread is that of the hart afterwards. A store that takes effect is still to change the images.
pub exec-done : (rack : RackView) (flat : PageView → PageImageView) (m : State) → RackStandsFor rack flat m → (setup : Setup) → setup.plan ≡ rack.plan
    → (h : ℕ) (hart : HartView) (at : IsHartAt rack h hart) (image : Image) → slice_get setup.images at.plan.image ≡ Some image → (pc : ℕ) → hart.end ≡ Running pc
    → HoldsFor rack flat at.blade.cache.entries (found image hart.regs pc) at.plan.domain
    → (deed : Deed) → carried_out (found image hart.regs pc) (around_held at.blade.cache.entries h at.plan.domain) pc (thread_of at.blade.cache.entries hart) ≡ Some deed
    → after_exec setup m h ≡ Some (done_by h at.plan.domain m
    (by_thread (machine_thread flat (hart_after at.plan.domain (found image hart.regs pc) at.blade.cache.entries hart deed)) deed))
exec-done rack flat m stands setup same h hart at image code pc runs holds deed e =
    exec-stands rack flat m stands setup same h hart at image code pc runs holds
    ∙ ap (λ d. option_map (done_by h at.plan.domain m) (option_map (deed_with (found image hart.regs pc) at.plan.domain (reserved_in flat hart.reserved)) d)) e
    ∙ ap (λ state. Some state) (done-alike flat at.blade.cache.entries (found image hart.regs pc) h at.plan.domain m hart deed
    (keeps-found rack flat at.blade.cache.entries (found image hart.regs pc) h at.plan.domain pc hart.reserved (thread_of at.blade.cache.entries hart) holds
    (hold-found rack flat at.blade.cache.entries hart.reserved (found image hart.regs pc) at.plan.domain holds) deed e))
