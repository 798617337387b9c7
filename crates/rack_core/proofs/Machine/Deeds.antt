-- An instruction does the same in two surroundings that agree at the page that it needs, for threads that differ in
-- their reservations alone.
use Rattle.std.proofs.Common.{◌≡◌, ℕ, zero, suc, ◌+◌, ◌*◌, ◌/◌, ◌%◌, ◌≤◌, ◌<◌, inl, inr, ◌==◌, Bool, true, false, ap, refl, Option, Some, None, ◌∙◌, arith}
use Rattle.std.specs.Prelude.{if◌then◌else◌, option_map, List, unwrap_or}
use Rattle.std.proofs.lemmas.Bool.{eqb-true}
use Rattle.mind_base.specs.Page.{PageView, page_of}
use Rattle.mind_base.specs.Pending.{PendingView, newest_byte}
use Rattle.mind_base.specs.declared.commands.Perm.{Perm}
use Rattle.mind_base.specs.declared.ends.End.{End}
use Rattle.mind_base.specs.declared.ends.End.TheVariants.{Running, Exit, Fault}
use Rattle.mind_base.specs.declared.ends.FaultKind.{FaultKind}
use Rattle.mind_base.specs.declared.ends.FaultKind.TheVariants as fault
use Rattle.rv32_decode.specs.declared.instruction.LoadKind.{LoadKind}
use Rattle.rv32_decode.specs.declared.instruction.LoadKind.TheVariants.{Lb, Lh, Lw, Lbu, Lhu}
use Rattle.hart_core.specs.Memory.{load_size, extended, combined, IsAccessSize}
use Rattle.hart_core.specs.Registers.{register}
use Rattle.hart_core.specs.Values.{word_sum}
use Rattle.hart_core.specs.declared.outcome.Act.{Act}
use Rattle.hart_core.specs.declared.outcome.Act.TheVariants as act
use Rattle.hart_core.specs.declared.outcome.LockedKind.{LockedKind}
use Rattle.hart_core.specs.declared.outcome.LockedKind.TheVariants as locked
use Rattle.hart_effect.specs.Access.{memory_byte, seen_byte, spelled_number, denied}
use Rattle.hart_effect.specs.Deed.{Deed, Alone, Storing, acted, carried_out, called, faulted, put_out, continued, reserving, exchanged, unless_denied, stored_if, holds_reservation, must_wait}
use Rattle.mind_base.specs.Place.{place_of, page_at, granule_at, Granule}
use Rattle.mind_base.specs.Permission.{may_read, may_write}
use Rattle.hart_effect.specs.Thread.{Thread}
use Rattle.hart_effect.specs.declared.finds.Found.{Found}
use Rattle.hart_effect.specs.declared.finds.Found.TheVariants.{Outside, Unknown, Asks}
use Rattle.compute_blade.specs.Steps.{need_in}
use Rattle.compute_blade.specs.declared.kept.Need.{Need}

-- ---- the reservation after a deed

-- LR reserves its granule, an SC that stores nothing leaves none, and all else leaves the reservation
abbrev pub reserved_by : LockedKind → ℕ → ℕ → Option Granule → Option Granule
reserved_by locked.Lr domain address reserved = Some (granule_at (place_of domain address))
reserved_by locked.Sc domain address reserved = None
reserved_by (locked.Amo kind) domain address reserved = reserved

abbrev pub reserved_asked : Act → ℕ → Option Granule → Option Granule
reserved_asked (act.Next rd value next) domain reserved = reserved
reserved_asked (act.Load kind rd address) domain reserved = reserved
reserved_asked (act.Store size address value) domain reserved = reserved
reserved_asked (act.Locked kind rd address operand) domain reserved = reserved_by kind domain address reserved
reserved_asked (act.Fence drains) domain reserved = reserved
reserved_asked act.Call domain reserved = reserved
reserved_asked (act.Jumped target) domain reserved = reserved
reserved_asked act.Broke domain reserved = reserved

abbrev pub reserved_found : Found → ℕ → Option Granule → Option Granule
reserved_found Outside domain reserved = reserved
reserved_found (Unknown word) domain reserved = reserved
reserved_found (Asks asked) domain reserved = reserved_asked asked domain reserved

-- a thread that ends keeps its reservation
abbrev pub reserved_after : Found → ℕ → End → Option Granule → Option Granule
reserved_after found domain (Running pc) reserved = reserved_found found domain reserved
reserved_after found domain (Exit value) reserved = reserved
reserved_after found domain (Fault kind value pc) reserved = reserved

-- the deed of the same thread that had this reservation; one that stores at once leaves the reservation to the store
abbrev pub deed_with : Found → ℕ → Option Granule → Deed → Deed
deed_with found domain reserved (Alone thread) = Alone (reserving (reserved_after found domain thread.end reserved) thread)
deed_with found domain reserved (Storing thread store) = Storing (reserving reserved thread) store

-- ---- surroundings that agree

-- bytes and permissions agree at a page
pub record AgreeAt (domain : ℕ) (byte other : ℕ → ℕ → ℕ) (perm given : PageView → Perm) (page : PageView) : Type 0 where
  pub bytes : (address : ℕ) → page_of domain address ≡ page → byte domain address ≡ other domain address
  pub perms : perm page ≡ given page

-- they agree at the page that an instruction needs
abbrev pub AgreeFor : Found → ℕ → (ℕ → ℕ → ℕ) → (ℕ → ℕ → ℕ) → (PageView → Perm) → (PageView → Perm) → Type 0
AgreeFor found domain byte other perm given = (need : Need) → need_in found domain ≡ Some need → AgreeAt domain byte other perm given need.page

-- two threads hold or hold not their reservation on the granule of an SC
abbrev pub HoldAlike : Found → ℕ → Option Granule → Option Granule → Type 0
HoldAlike found domain reserved kept = (rd address operand : ℕ) → found ≡ Asks (act.Locked locked.Sc rd address operand) → (address % 4 == 0) ≡ true
    → holds_reservation reserved (granule_at (place_of domain address)) ≡ holds_reservation kept (granule_at (place_of domain address))

-- ---- the bytes of an access

number_of-alike : (f g : ℕ → ℕ) (address size : ℕ) → ((a : ℕ) → address ≤ a → a < address + size → f a ≡ g a) → spelled_number f address size ≡ spelled_number g address size
number_of-alike f g address zero h = refl
number_of-alike f g address (suc size) h =
    let first : f address ≡ g address = h address (omega arith) (omega arith) in
    let rest : spelled_number f (address + 1) size ≡ spelled_number g (address + 1) size = number_of-alike f g (address + 1) size (λ a l u. h a (omega arith) (omega arith)) in
    λ i. first i + 256 * rest i

-- the addresses of an access at a multiple of its size lie in one page
pub in_one_page : (address size a : ℕ) → IsAccessSize size → (address % size == 0) ≡ true → address ≤ a → a < address + size → a / 4096 ≡ address / 4096
in_one_page address size a sizes e l u = by sizes (eqb-true _ _ e) where
  by : IsAccessSize size → address % size ≡ 0 → a / 4096 ≡ address / 4096
  by (inl one) even = omega arith
  by (inr (inl two)) even = let halves : address % 2 ≡ 0 = rw two at even in omega arith
  by (inr (inr four)) even = let quarters : address % 4 ≡ 0 = rw four at even in omega arith

pub load_sizes : (kind : LoadKind) → IsAccessSize (load_size kind)
unfolding load_size
load_sizes Lb = inl refl
load_sizes Lh = inr (inl refl)
load_sizes Lw = inr (inr refl)
load_sizes Lbu = inl refl
load_sizes Lhu = inr (inl refl)

byte-alike : (domain : ℕ) (byte other : ℕ → ℕ → ℕ) (perm given : PageView → Perm) (address size : ℕ) → IsAccessSize size → (address % size == 0) ≡ true
    → AgreeAt domain byte other perm given (page_at (place_of domain address)) → (a : ℕ) → address ≤ a → a < address + size → byte domain a ≡ other domain a
byte-alike domain byte other perm given address size sizes e agree a l u =
    let one : a / 4096 ≡ address / 4096 = in_one_page address size a sizes e l u in
    agree.bytes a (λ i. record { domain = domain; number = one i })

seen-alike : (domain : ℕ) (byte other : ℕ → ℕ → ℕ) (perm given : PageView → Perm) (address size : ℕ) (buffer : List PendingView) → IsAccessSize size → (address % size == 0) ≡ true
    → AgreeAt domain byte other perm given (page_at (place_of domain address))
    → spelled_number (seen_byte byte domain buffer) address size ≡ spelled_number (seen_byte other domain buffer) address size
seen-alike domain byte other perm given address size buffer sizes e agree = number_of-alike (seen_byte byte domain buffer) (seen_byte other domain buffer) address size
    (λ a l u. ap (λ b. unwrap_or (newest_byte buffer a) b) (byte-alike domain byte other perm given address size sizes e agree a l u))

word-alike : (domain : ℕ) (byte other : ℕ → ℕ → ℕ) (perm given : PageView → Perm) (address : ℕ) → (address % 4 == 0) ≡ true
    → AgreeAt domain byte other perm given (page_at (place_of domain address))
    → spelled_number (memory_byte byte domain) address 4 ≡ spelled_number (memory_byte other domain) address 4
word-alike domain byte other perm given address e agree = number_of-alike (memory_byte byte domain) (memory_byte other domain) address 4
    (byte-alike domain byte other perm given address 4 (inr (inr refl)) e agree)

-- ---- an access

-- it is denied in both or done in both
access-alike : (found : Found) (domain : ℕ) (kind : FaultKind) (allows : Perm → Bool) (perm given : PageView → Perm) (address size pc : ℕ) (thread : Thread) (reserved : Option Granule) (deed other : Deed)
    → ((address % size == 0) ≡ true → (perm (page_at (place_of domain address)) ≡ given (page_at (place_of domain address))) × (deed ≡ deed_with found domain reserved other))
    → unless_denied (denied kind allows perm domain address size) address pc (reserving reserved thread) deed
    ≡ deed_with found domain reserved (unless_denied (denied kind allows given domain address size) address pc thread other)
access-alike found domain kind allows perm given address size pc thread reserved deed other h = by (address % size == 0) refl where
  page : PageView
  page = page_at (place_of domain address)

  allowed : (b : Bool) → deed ≡ deed_with found domain reserved other
      → unless_denied (if b then None else Some kind) address pc (reserving reserved thread) deed
      ≡ deed_with found domain reserved (unless_denied (if b then None else Some kind) address pc thread other)
  allowed true e = e
  allowed false e = refl

  by : (a : Bool) → (address % size == 0) ≡ a
      → unless_denied (if a then (if allows (perm page) then None else Some kind) else Some fault.Align) address pc (reserving reserved thread) deed
      ≡ deed_with found domain reserved (unless_denied (if a then (if allows (given page) then None else Some kind) else Some fault.Align) address pc thread other)
  by true e = ap (λ p. unless_denied (if allows p then None else Some kind) address pc (reserving reserved thread) deed) (h e).0
      ∙ allowed (allows (given page)) (h e).1
  by false e = refl

-- ---- what an instruction asks

called-alike : (number a0 hart pc domain : ℕ) (thread : Thread) (reserved : Option Granule)
    → Alone (called number a0 hart pc (reserving reserved thread)) ≡ deed_with (Asks act.Call) domain reserved (Alone (called number a0 hart pc thread))
called-alike number a0 hart pc domain thread reserved = by (number == 1) (number == 2) (number == 3) where
  make : Bool → Bool → Bool → Thread → Thread
  make a b c t = if a then put_out (a0 % 256) pc t
      else (if b then record t { end = Exit a0 } else (if c then continued 10 hart (word_sum pc 4) t else faulted fault.Call number pc t))

  by : (a b c : Bool) → Alone (make a b c (reserving reserved thread)) ≡ deed_with (Asks act.Call) domain reserved (Alone (make a b c thread))
  by true b c = refl
  by false true c = refl
  by false false true = refl
  by false false false = refl

acted-alike : (asked : Act) (h domain : ℕ) (byte other : ℕ → ℕ → ℕ) (perm given : PageView → Perm) (pc : ℕ) (thread : Thread) (reserved : Option Granule)
    → AgreeFor (Asks asked) domain byte other perm given → HoldAlike (Asks asked) domain reserved thread.reserved
    → acted asked (record { hart = h; domain = domain; byte = byte; perm = perm }) pc (reserving reserved thread)
    ≡ deed_with (Asks asked) domain reserved (acted asked (record { hart = h; domain = domain; byte = other; perm = given }) pc thread)
acted-alike (act.Next rd value next) h domain byte other perm given pc thread reserved agree hold = refl
acted-alike (act.Load kind rd address) h domain byte other perm given pc thread reserved agree hold =
    access-alike (Asks (act.Load kind rd address)) domain fault.Load may_read perm given address (load_size kind) pc thread reserved _ _ at where
      at : (address % load_size kind == 0) ≡ true → (perm (page_at (place_of domain address)) ≡ given (page_at (place_of domain address)))
          × (Alone (continued rd (extended kind (spelled_number (seen_byte byte domain thread.buffer) address (load_size kind))) (word_sum pc 4) (reserving reserved thread))
          ≡ Alone (reserving reserved (continued rd (extended kind (spelled_number (seen_byte other domain thread.buffer) address (load_size kind))) (word_sum pc 4) thread)))
      at e =
          let there : AgreeAt domain byte other perm given (page_at (place_of domain address)) =
          agree _ (ap (λ b. if b then Some (record { page = page_at (place_of domain address); write = false }) else None) e) in (
            there.perms,
            ap (λ n. Alone (continued rd (extended kind n) (word_sum pc 4) (reserving reserved thread)))
                (seen-alike domain byte other perm given address (load_size kind) thread.buffer (load_sizes kind) e there),
          )
acted-alike (act.Store size address value) h domain byte other perm given pc thread reserved agree hold =
    access-alike (Asks (act.Store size address value)) domain fault.Store may_write perm given address size pc thread reserved _ _
    (λ e. ((agree _ (ap (λ b. if b then Some (record { page = page_at (place_of domain address); write = true }) else None) e)).perms, refl))
acted-alike (act.Locked locked.Lr rd address operand) h domain byte other perm given pc thread reserved agree hold =
    access-alike (Asks (act.Locked locked.Lr rd address operand)) domain fault.Load may_read perm given address 4 pc thread reserved _ _ at where
      at : (address % 4 == 0) ≡ true → (perm (page_at (place_of domain address)) ≡ given (page_at (place_of domain address)))
          × (Alone (continued rd (spelled_number (memory_byte byte domain) address 4) (word_sum pc 4) (reserving (Some (granule_at (place_of domain address))) thread))
          ≡ Alone (continued rd (spelled_number (memory_byte other domain) address 4) (word_sum pc 4) (reserving (Some (granule_at (place_of domain address))) thread)))
      at e =
          let there : AgreeAt domain byte other perm given (page_at (place_of domain address)) =
          agree _ (ap (λ b. if b then Some (record { page = page_at (place_of domain address); write = false }) else None) e) in (
            there.perms,
            ap (λ n. Alone (continued rd n (word_sum pc 4) (reserving (Some (granule_at (place_of domain address))) thread)))
                (word-alike domain byte other perm given address e there),
          )
acted-alike (act.Locked locked.Sc rd address operand) h domain byte other perm given pc thread reserved agree hold =
    access-alike (Asks (act.Locked locked.Sc rd address operand)) domain fault.Store may_write perm given address 4 pc thread reserved _ _
    (λ e. (
      (agree _ (ap (λ b. if b then Some (record { page = page_at (place_of domain address); write = true }) else None) e)).perms,
      ap (λ b. stored_if b rd address operand pc (reserving reserved thread)) (hold rd address operand refl e)
          ∙ by (holds_reservation thread.reserved (granule_at (place_of domain address))),
    )) where
      by : (b : Bool) → stored_if b rd address operand pc (reserving reserved thread)
          ≡ deed_with (Asks (act.Locked locked.Sc rd address operand)) domain reserved (stored_if b rd address operand pc thread)
      by true = refl
      by false = refl
acted-alike (act.Locked (locked.Amo kind) rd address operand) h domain byte other perm given pc thread reserved agree hold =
    access-alike (Asks (act.Locked (locked.Amo kind) rd address operand)) domain fault.Store may_write perm given address 4 pc thread reserved _ _ at where
      at : (address % 4 == 0) ≡ true → (perm (page_at (place_of domain address)) ≡ given (page_at (place_of domain address)))
          × (exchanged rd (spelled_number (memory_byte byte domain) address 4) address (combined kind (spelled_number (memory_byte byte domain) address 4) operand) pc (reserving reserved thread)
          ≡ exchanged rd (spelled_number (memory_byte other domain) address 4) address (combined kind (spelled_number (memory_byte other domain) address 4) operand) pc (reserving reserved thread))
      at e =
          let there : AgreeAt domain byte other perm given (page_at (place_of domain address)) =
          agree _ (ap (λ b. if b then Some (record { page = page_at (place_of domain address); write = true }) else None) e) in
          (there.perms, ap (λ n. exchanged rd n address (combined kind n operand) pc (reserving reserved thread)) (word-alike domain byte other perm given address e there))
acted-alike (act.Fence drains) h domain byte other perm given pc thread reserved agree hold = refl
acted-alike act.Call h domain byte other perm given pc thread reserved agree hold =
    called-alike (register thread.regs 17) (register thread.regs 10) h pc domain thread reserved
acted-alike (act.Jumped target) h domain byte other perm given pc thread reserved agree hold = refl
acted-alike act.Broke h domain byte other perm given pc thread reserved agree hold = refl

-- ---- one instruction

-- A thread with another reservation, in surroundings that agree at the page that is needed, does the same deed but
-- for the reservation.
pub carried_out-alike : (found : Found) (h domain : ℕ) (byte other : ℕ → ℕ → ℕ) (perm given : PageView → Perm) (pc : ℕ) (thread : Thread) (reserved : Option Granule)
    → AgreeFor found domain byte other perm given → HoldAlike found domain reserved thread.reserved
    → carried_out found (record { hart = h; domain = domain; byte = byte; perm = perm }) pc (reserving reserved thread)
    ≡ option_map (deed_with found domain reserved) (carried_out found (record { hart = h; domain = domain; byte = other; perm = given }) pc thread)
carried_out-alike Outside h domain byte other perm given pc thread reserved agree hold = refl
carried_out-alike (Unknown word) h domain byte other perm given pc thread reserved agree hold = refl
carried_out-alike (Asks asked) h domain byte other perm given pc thread reserved agree hold = by (must_wait asked thread.buffer) where
  here : Deed
  here = acted asked (record { hart = h; domain = domain; byte = byte; perm = perm }) pc (reserving reserved thread)

  there : Deed
  there = acted asked (record { hart = h; domain = domain; byte = other; perm = given }) pc thread

  by : (b : Bool) → (if b then None else Some here) ≡ option_map (deed_with (Asks asked) domain reserved) (if b then None else Some there)
  by true = refl
  by false = ap (λ deed. Some deed) (acted-alike asked h domain byte other perm given pc thread reserved agree hold)
