-- Accesses to memory: what a thread sees there, and when it is denied.
use Rattle.std.specs.Prelude.{ℕ, zero, suc, ◌+◌, ◌*◌, ◌%◌, Bool, true, false, ◌==◌, List, Option, Some, None, unwrap_or, if◌then◌else◌}
use Rattle.mind_base.specs.Page.{PageView}
use Rattle.mind_base.specs.Pending.{PendingView, newest_byte}
use Rattle.mind_base.specs.declared.commands.Perm.{Perm}
use Rattle.mind_base.specs.declared.ends.FaultKind.{FaultKind}
use Rattle.mind_base.specs.declared.ends.FaultKind.TheVariants as fault
use Rattle.mind_base.specs.Place.{place_of, page_at}
use Rattle.mind_base.specs.Permission.{may_read, may_write}
use Rattle.hart_core.specs.Memory.{load_size}
use Rattle.hart_core.specs.declared.outcome.Act.{Act}
use Rattle.hart_core.specs.declared.outcome.Act.TheVariants as act
use Rattle.hart_core.specs.declared.outcome.LockedKind.{LockedKind}
use Rattle.hart_core.specs.declared.outcome.LockedKind.TheVariants as locked
use Rattle.hart_effect.specs.declared.accesses.AccessKind.{AccessKind}
use Rattle.hart_effect.specs.declared.accesses.AccessKind.TheVariants.{Reads, WritesLater, WritesAtOnce}

-- What a thread finds around it: its number and its domain, the byte that memory holds at an address of
-- a domain, and the permission of a page.
pub record Around : Type 0 where
  pub hart : ℕ
  pub domain : ℕ
  pub byte : ℕ → ℕ → ℕ
  pub perm : PageView → Perm

-- the byte of memory that an access of a thread of a domain at an address names
abbrev pub memory_byte : (ℕ → ℕ → ℕ) → ℕ → ℕ → ℕ
memory_byte byte domain address = byte (place_of domain address).domain (place_of domain address).address

-- the byte that the thread sees there: that of its newest buffered store that covers it, else memory's
abbrev pub seen_byte : (ℕ → ℕ → ℕ) → ℕ → List PendingView → ℕ → ℕ
seen_byte byte domain buffer address = unwrap_or (newest_byte buffer address) (memory_byte byte domain address)

-- the number that so many bytes from an address on spell, the lowest first
abbrev pub spelled_number : (ℕ → ℕ) → ℕ → ℕ → ℕ
spelled_number byte address zero = 0
spelled_number byte address (suc size) = byte address + 256 * spelled_number byte (address + 1) size

-- An access: what it does, the domain of the thread that makes it, the address of its lowest byte there, and
-- how many bytes it has.
pub record AccessView : Type 0 where
  pub kind : AccessKind
  pub domain : ℕ
  pub address : ℕ
  pub size : ℕ

-- it stands at a multiple of its size
abbrev pub is_aligned : AccessView → Bool
is_aligned access = access.address % access.size == 0

-- it writes, now or later
abbrev pub writes : AccessKind → Bool
writes Reads = false
writes kind = true

-- what an access of a kind wants of its page, and the fault that it ends by where that is not allowed
abbrev pub access_allowed : AccessKind → Perm → Bool
access_allowed Reads = may_read
access_allowed kind = may_write

abbrev pub fault_of : AccessKind → FaultKind
fault_of Reads = fault.Load
fault_of kind = fault.Store

-- Why an access of so many bytes is denied: it stands at no multiple of its size; else its page may not
-- be read, or written.
abbrev pub denied : FaultKind → (Perm → Bool) → (PageView → Perm) → ℕ → ℕ → ℕ → Option FaultKind
denied kind access_allowed perm domain address size =
    if address % size == 0
    then (if access_allowed (perm (page_at (place_of domain address))) then None else Some kind)
    else Some fault.Align

abbrev pub access_denied : (PageView → Perm) → AccessView → Option FaultKind
access_denied perm access = denied (fault_of access.kind) (access_allowed access.kind) perm access.domain access.address access.size

abbrev pub read_denied : (PageView → Perm) → ℕ → ℕ → ℕ → Option FaultKind
read_denied perm domain address size = access_denied perm (record { kind = Reads; domain = domain; address = address; size = size })

abbrev pub write_denied : (PageView → Perm) → ℕ → ℕ → ℕ → Option FaultKind
write_denied perm domain address size = access_denied perm (record { kind = WritesLater; domain = domain; address = address; size = size })

-- ---- which access an instruction makes

-- LR reads; SC and AMO write, at once
abbrev pub locked_kind : LockedKind → AccessKind
locked_kind locked.Lr = Reads
locked_kind locked.Sc = WritesAtOnce
locked_kind (locked.Amo kind) = WritesAtOnce

-- the access that an instruction of a thread of a domain makes, if it makes one
abbrev pub access_of : Act → ℕ → Option AccessView
access_of (act.Load kind rd address) domain = Some (record { kind = Reads; domain = domain; address = address; size = load_size kind })
access_of (act.Store size address value) domain = Some (record { kind = WritesLater; domain = domain; address = address; size = size })
access_of (act.Locked kind rd address operand) domain = Some (record { kind = locked_kind kind; domain = domain; address = address; size = 4 })
access_of asked domain = None
