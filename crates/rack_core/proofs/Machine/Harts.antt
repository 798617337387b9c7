-- A hart of a blade does what its thread of the machine does, where the rack stands for the machine's state and the
-- blade holds the page that the instruction needs.
use Rattle.std.proofs.Common.{◌≡◌, ℕ, ◌/◌, ◌%◌, ◌==◌, Bool, true, false, ap, sym, refl, subst, List, ◌∷◌, slice_get, slice_index, Option, Some, None, ◌∙◌, arith}
use Rattle.std.specs.Prelude.{if◌then◌else◌, option_and_then, option_map}
use Rattle.std.proofs.lemmas.Bool.{eqb-true, and_parts}
use Rattle.mind_base.specs.Page.{PageView}
use Rattle.mind_base.specs.Pending.{PendingView}
use Rattle.mind_base.specs.Permission.{permission_of}
use Rattle.mind_base.specs.declared.ends.End.TheVariants.{Running}
use Rattle.mind_base.specs.declared.images.Image.{Image}
use Rattle.hart_effect.specs.Deed.{Storing, found, carried_out, executed, executed_at, drain_deed, drained_of, holds_reservation}
use Rattle.mind_base.specs.Place.{place_of, page_at, page_with, granule_at, same_granule, Granule}
use Rattle.hart_effect.specs.declared.finds.Found.{Found}
use Rattle.page_cache.specs.PageCache.{frame_of}
use Rattle.page_cache.specs.declared.frames.Frame.{Frame}
use Rattle.page_image.specs.PageImage.{PageImageView, tag_at}
use Rattle.protect_table.specs.Protect.{permission_at}
use Rattle.compute_blade.specs.Blade.{HartView}
use Rattle.compute_blade.specs.Frames.{around_held, held_byte, frame_byte, held_perm, perm_in, held_tag, tag_in, if_same_tag, still_reserved, thread_of}
use Rattle.compute_blade.specs.Steps.{need_in, serves, one_more_store}
use Rattle.compute_blade.specs.declared.kept.Need.{Need}
use Rattle.compute_blade.specs.declared.kept.Reservation.{Reservation}
use Rattle.coherence.specs.Facts.{AreFrames}
use Rattle.tso_machine.specs.Memory.{byte_of}
use Rattle.tso_machine.specs.State.{Setup, State}
use Rattle.tso_machine.specs.Step.{around_in, done_by, after_exec, after_drain}
use Rattle.rack_core.specs.Rack.{RackView}
use Rattle.rack_core.specs.Seen.{seen}
use Rattle.rack_core.specs.Stands.{IsHartAt, RackStandsFor, machine_thread, reserved_in}
use Rattle.rack_core.proofs.Machine.Deeds.{AgreeAt, HoldAlike, deed_with, carried_out-alike}

abbrev pub Entries : Type 0
Entries = List (PageView × Frame)

-- ---- a page that is held

-- the page is held, with the newest image and the permission that the switch has for it
pub record IsHeld (rack : RackView) (flat : PageView → PageImageView) (entries : Entries) (page : PageView) : Type 0 where
  pub frame : Frame
  pub held : frame_of page entries ≡ Some frame
  pub newest : frame.image ≡ flat page
  pub perm : frame.perm ≡ permission_at rack.switch.protect page

-- the page that an instruction needs is held so
abbrev pub HoldsFor : RackView → (PageView → PageImageView) → Entries → Found → ℕ → Type 0
HoldsFor rack flat entries found domain = (need : Need) → need_in found domain ≡ Some need → IsHeld rack flat entries need.page

-- a hart finds in a page that it holds what the machine has there
pub agree-held : (rack : RackView) (flat : PageView → PageImageView) (m : State) → RackStandsFor rack flat m → (entries : Entries) (domain : ℕ) (page : PageView)
    → IsHeld rack flat entries page → AgreeAt domain (byte_of m.writes) (held_byte entries) (permission_of m.perms) (held_perm entries) page
agree-held rack flat m stands entries domain page held = record {
  bytes = λ address here. stands.bytes domain address
      ∙ ap (λ p. slice_index (flat p).bytes (address % 4096)) here
      ∙ ap (λ image. slice_index image.bytes (address % 4096)) (sym held.newest)
      ∙ ap (λ frame. frame_byte frame (address % 4096)) (sym held.held)
      ∙ ap (λ p. frame_byte (frame_of p entries) (address % 4096)) (sym here);
  perms = ap (λ f. f page) stands.perms ∙ sym held.perm ∙ ap perm_in (sym held.held);
}

-- ---- reservations

same_granule-true : (a b : Granule) → same_granule a b ≡ true → a ≡ b
same_granule-true a b h =
    let parts = and_parts _ _ h in
    let domain : a.domain ≡ b.domain = eqb-true _ _ parts.0 in
    let number : a.number ≡ b.number = eqb-true _ _ parts.1 in
    λ i. record { domain = domain i; number = number i }

-- a reservation on another granule is not held, whether it still stands or not
away-either : (c : Bool) (kept granule : Granule) → same_granule kept granule ≡ false → holds_reservation (if c then Some kept else None) granule ≡ false
away-either true kept granule e = e
away-either false kept granule e = refl

away-blade : (tag : Option ℕ) (kept : Reservation) (granule : Granule) → same_granule kept.granule granule ≡ false → holds_reservation (if_same_tag tag kept) granule ≡ false
away-blade None kept granule e = refl
away-blade (Some tag) kept granule e = away-either (tag == kept.tag) kept.granule granule e

-- a reservation on a granule of a page that is held stands at the blade where it stands in the newest image
reserved-held : (rack : RackView) (flat : PageView → PageImageView) (entries : Entries) (kept : Reservation) → IsHeld rack flat entries (page_with kept.granule)
    → reserved_in flat (Some kept) ≡ still_reserved entries (Some kept)
reserved-held rack flat entries kept held =
    ap (λ image. if tag_at image (kept.granule.number % 64) == kept.tag then Some kept.granule else None) (sym held.newest)
    ∙ ap (λ frame. if_same_tag (tag_in frame kept.granule) kept) (sym held.held)

-- of a granule whose page is held, machine and blade say alike whether a thread has it reserved
pub hold-alike : (rack : RackView) (flat : PageView → PageImageView) (entries : Entries) (kept : Option Reservation) (granule : Granule) → IsHeld rack flat entries (page_with granule)
    → holds_reservation (reserved_in flat kept) granule ≡ holds_reservation (still_reserved entries kept) granule
hold-alike rack flat entries None granule held = refl
hold-alike rack flat entries (Some kept) granule held = by (same_granule kept.granule granule) refl where
  by : (b : Bool) → same_granule kept.granule granule ≡ b
      → holds_reservation (reserved_in flat (Some kept)) granule ≡ holds_reservation (still_reserved entries (Some kept)) granule
  by true e = ap (λ r. holds_reservation r granule)
      (reserved-held rack flat entries kept (subst (λ g. IsHeld rack flat entries (page_with g)) (sym (same_granule-true kept.granule granule e)) held))
  by false e = away-either (tag_at (flat (page_with kept.granule)) (kept.granule.number % 64) == kept.tag) kept.granule granule e
      ∙ sym (away-blade (held_tag entries kept.granule) kept granule e)

-- the page of a granule of an address is that of the address
pub page_with-at : (domain address : ℕ) → page_with (granule_at (place_of domain address)) ≡ page_at (place_of domain address)
page_with-at domain address =
    let number : address / 64 / 64 ≡ address / 4096 = omega arith in
    λ i. record { domain = domain; number = number i }

-- of the granule of an SC whose page is held they say alike
pub hold-found : (rack : RackView) (flat : PageView → PageImageView) (entries : Entries) (kept : Option Reservation) (found : Found) (domain : ℕ)
    → HoldsFor rack flat entries found domain → HoldAlike found domain (reserved_in flat kept) (still_reserved entries kept)
hold-found rack flat entries kept found domain holds rd address operand is e = hold-alike rack flat entries kept (granule_at (place_of domain address))
    (subst (IsHeld rack flat entries) (sym (page_with-at domain address))
    (holds (record { page = page_at (place_of domain address); write = true })
    (ap (λ f. need_in f domain) is ∙ ap (λ b. if b then Some (record { page = page_at (place_of domain address); write = true }) else None) e)))

-- ---- an instruction

-- what a hart of a blade does is what its thread of the machine does, but for the reservation
pub deed-stands : (rack : RackView) (flat : PageView → PageImageView) (m : State) → RackStandsFor rack flat m
    → (entries : Entries) (hart : HartView) (found : Found) (h domain pc : ℕ) → HoldsFor rack flat entries found domain
    → carried_out found (around_in m h domain) pc (machine_thread flat hart)
    ≡ option_map (deed_with found domain (reserved_in flat hart.reserved)) (carried_out found (around_held entries h domain) pc (thread_of entries hart))
deed-stands rack flat m stands entries hart found h domain pc holds =
    carried_out-alike found h domain (byte_of m.writes) (held_byte entries) (permission_of m.perms) (held_perm entries) pc (thread_of entries hart) (reserved_in flat hart.reserved)
    (λ need e. agree-held rack flat m stands entries domain need.page (holds need e)) (hold-found rack flat entries hart.reserved found domain holds)

-- ---- the machine's step

-- a page that a blade of a coherent rack holds
pub held-coherent : (rack : RackView) (flat : PageView → PageImageView) → AreFrames (seen rack flat) → (h : ℕ) (hart : HartView) (at : IsHartAt rack h hart) (page : PageView) (frame : Frame)
    → frame_of page at.blade.cache.entries ≡ Some frame → IsHeld rack flat at.blade.cache.entries page
held-coherent rack flat frames h hart at page frame e =
    let is = frames at.plan.blade page frame (ap (option_and_then (λ blade. frame_of page blade.cache.entries)) at.there ∙ e) in
    record { frame = frame; held = e; newest = is.newest; perm = is.perm }

-- a page serves an instruction only where it is held
held-serving : (rack : RackView) (flat : PageView → PageImageView) → AreFrames (seen rack flat) → (h : ℕ) (hart : HartView) (at : IsHartAt rack h hart) (page : PageView) (found : Found)
    → serves found (frame_of page at.blade.cache.entries) ≡ true → IsHeld rack flat at.blade.cache.entries page
held-serving rack flat frames h hart at page found e = by (frame_of page at.blade.cache.entries) refl e where
  by : (held : Option Frame) → frame_of page at.blade.cache.entries ≡ held → serves found held ≡ true → IsHeld rack flat at.blade.cache.entries page
  by None is e = let never : ⊥ = cc in absurd never
  by (Some frame) is e = held-coherent rack flat frames h hart at page frame is

pub holds-serving : (rack : RackView) (flat : PageView → PageImageView) → AreFrames (seen rack flat) → (h : ℕ) (hart : HartView) (at : IsHartAt rack h hart) (found : Found)
    → ((need : Need) → need_in found at.plan.domain ≡ Some need → serves found (frame_of need.page at.blade.cache.entries) ≡ true)
    → HoldsFor rack flat at.blade.cache.entries found at.plan.domain
holds-serving rack flat frames h hart at found serving need e = held-serving rack flat frames h hart at need.page found (serving need e)

-- a machine made from the rack's plan, in a state that the rack stands for, executes a hart's thread as the blade performs it
pub exec-stands : (rack : RackView) (flat : PageView → PageImageView) (m : State) → RackStandsFor rack flat m → (setup : Setup) → setup.plan ≡ rack.plan
    → (h : ℕ) (hart : HartView) (at : IsHartAt rack h hart) (image : Image) → slice_get setup.images at.plan.image ≡ Some image → (pc : ℕ) → hart.end ≡ Running pc
    → HoldsFor rack flat at.blade.cache.entries (found image hart.regs pc) at.plan.domain
    → after_exec setup m h ≡ option_map (done_by h at.plan.domain m)
    (option_map (deed_with (found image hart.regs pc) at.plan.domain (reserved_in flat hart.reserved))
    (carried_out (found image hart.regs pc) (around_held at.blade.cache.entries h at.plan.domain) pc (thread_of at.blade.cache.entries hart)))
exec-stands rack flat m stands setup same h hart at image code pc runs holds =
    ap (option_and_then (λ plan. option_and_then (λ image. option_and_then (λ thread.
    option_map (done_by h plan.domain m) (executed image (around_in m h plan.domain) thread))
    (slice_get m.threads h)) (slice_get setup.images plan.image))) (ap (λ plan. slice_get plan.threads h) same ∙ at.thread)
    ∙ ap (option_and_then (λ image. option_and_then (λ thread.
    option_map (done_by h at.plan.domain m) (executed image (around_in m h at.plan.domain) thread)) (slice_get m.threads h))) code
    ∙ ap (option_and_then (λ thread. option_map (done_by h at.plan.domain m) (executed image (around_in m h at.plan.domain) thread))) (stands.threads h hart at)
    ∙ ap (λ end. option_map (done_by h at.plan.domain m) (executed_at end image (around_in m h at.plan.domain) (machine_thread flat hart))) runs
    ∙ ap (option_map (done_by h at.plan.domain m)) (deed-stands rack flat m stands at.blade.cache.entries hart (found image hart.regs pc) h at.plan.domain pc holds)

-- ---- a drain

-- and it drains a hart's oldest store, whatever is held; the thread is that of the hart afterwards
pub drain-stands : (rack : RackView) (flat : PageView → PageImageView) (m : State) → RackStandsFor rack flat m → (setup : Setup) → setup.plan ≡ rack.plan
    → (h : ℕ) (hart : HartView) (at : IsHartAt rack h hart) (oldest : PendingView) (newer : List PendingView) → hart.queue.stores ≡ oldest ∷ newer
    → after_drain setup m h ≡ Some (done_by h at.plan.domain m (Storing (machine_thread flat (one_more_store (record hart { queue = record hart.queue { stores = newer } }))) oldest))
drain-stands rack flat m stands setup same h hart at oldest newer stores =
    ap (option_and_then (λ plan. option_and_then (λ thread. option_map (done_by h plan.domain m) (drain_deed thread)) (slice_get m.threads h)))
    (ap (λ plan. slice_get plan.threads h) same ∙ at.thread)
    ∙ ap (option_and_then (λ thread. option_map (done_by h at.plan.domain m) (drain_deed thread))) (stands.threads h hart at)
    ∙ ap (λ queue. option_map (done_by h at.plan.domain m) (drained_of queue (machine_thread flat hart))) stores
