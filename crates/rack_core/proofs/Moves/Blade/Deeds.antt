-- What is known of a deed: the thread's buffer only grows, and a store takes effect at once only in the page that
-- the instruction needs to write, where its domain may.
use Rattle.std.proofs.Common.{◌≡◌, ℕ, ◌%◌, ◌==◌, Bool, true, false, ap, sym, refl, List, [], ◌∷◌, ◌++◌, Option, Some, None, subst, append-nil}
use Rattle.std.specs.Prelude.{if◌then◌else◌}
use Rattle.std.specs.List.{AllByRecursion}
use Rattle.std.proofs.lemmas.Option.{same_Some}
use Rattle.mind_base.specs.Pending.{PendingView}
use Rattle.mind_base.specs.declared.ends.End.TheVariants.{Exit}
use Rattle.mind_base.specs.declared.ends.FaultKind.{FaultKind}
use Rattle.mind_base.specs.declared.ends.FaultKind.TheVariants as fault
use Rattle.hart_core.specs.Memory.{load_size}
use Rattle.hart_core.specs.Registers.{register}
use Rattle.hart_core.specs.Values.{word_sum}
use Rattle.hart_core.specs.declared.outcome.Act.{Act}
use Rattle.hart_core.specs.declared.outcome.Act.TheVariants as act
use Rattle.hart_core.specs.declared.outcome.LockedKind.{LockedKind}
use Rattle.hart_core.specs.declared.outcome.LockedKind.TheVariants as locked
use Rattle.hart_effect.specs.Access.{Around, read_denied, write_denied}
use Rattle.hart_effect.specs.Deed.{Deed, Alone, Storing, acted, carried_out, called, faulted, put_out, continued, unless_denied, stored_if, holds_reservation, must_wait}
use Rattle.mind_base.specs.Place.{place_of, page_at, granule_at}
use Rattle.mind_base.specs.Permission.{may_write}
use Rattle.hart_effect.specs.Thread.{Thread}
use Rattle.hart_effect.specs.declared.finds.Found.{Found}
use Rattle.hart_effect.specs.declared.finds.Found.TheVariants.{Outside, Unknown, Asks}
use Rattle.compute_blade.specs.Steps.{need_in, writes_at_once}

-- ---- the buffer

unfoldable pub buffer_of : Deed → List PendingView
buffer_of (Alone thread) = thread.buffer
buffer_of (Storing thread store) = thread.buffer

-- stores that may be made at once or later
abbrev pub Allowed : Around → List PendingView → Type 0
Allowed around stores = AllByRecursion (λ store. may_write (around.perm (page_at (place_of around.domain store.address))) ≡ true) stores

-- a list of stores with allowed ones behind it
pub record Grows (around : Around) (old new : List PendingView) : Type 0 where
  pub rest : List PendingView
  pub split : new ≡ old ++ rest
  pub allowed : Allowed around rest

same : (around : Around) (stores : List PendingView) → Grows around stores stores
same around stores = record { rest = []; split = sym (append-nil stores); allowed = tt }

grows-unless : (denied : Option FaultKind) (address pc : ℕ) (around : Around) (thread : Thread) (deed : Deed)
    → Grows around thread.buffer (buffer_of deed) → Grows around thread.buffer (buffer_of (unless_denied denied address pc thread deed))
unfolding buffer_of
grows-unless None address pc around thread deed h = h
grows-unless (Some kind) address pc around thread deed h = same around thread.buffer

-- what is to be written is denied, or the page may be written and the address is a multiple of the size
pub unless-written : (P : Deed → Type 0) (around : Around) (address size pc : ℕ) (thread : Thread) (deed : Deed)
    → ((kind : FaultKind) → P (Alone (faulted kind address pc thread)))
    → ((address % size == 0) ≡ true → may_write (around.perm (page_at (place_of around.domain address))) ≡ true → P deed)
    → P (unless_denied (write_denied around.perm around.domain address size) address pc thread deed)
unless-written P around address size pc thread deed faults given = by (address % size == 0) refl (may_write (around.perm (page_at (place_of around.domain address)))) refl where
  by : (a : Bool) → (address % size == 0) ≡ a → (b : Bool) → may_write (around.perm (page_at (place_of around.domain address))) ≡ b
      → P (unless_denied (if a then (if b then None else Some fault.Store) else Some fault.Align) address pc thread deed)
  by true e true f = given e f
  by true e false f = faults fault.Store
  by false e b f = faults fault.Align

grows-called : (number a0 hart pc : ℕ) (around : Around) (thread : Thread) → Grows around thread.buffer (called number a0 hart pc thread).buffer
grows-called number a0 hart pc around thread = by (number == 1) (number == 2) (number == 3) where
  by : (a b c : Bool) → Grows around thread.buffer (if a then put_out (a0 % 256) pc thread
      else (if b then record thread { end = Exit a0 } else (if c then continued 10 hart (word_sum pc 4) thread else faulted fault.Call number pc thread))).buffer
  by true b c = same around thread.buffer
  by false true c = same around thread.buffer
  by false false true = same around thread.buffer
  by false false false = same around thread.buffer

grows-acted : (asked : Act) (around : Around) (pc : ℕ) (thread : Thread) → Grows around thread.buffer (buffer_of (acted asked around pc thread))
unfolding buffer_of
grows-acted (act.Next rd value next) around pc thread = same around thread.buffer
grows-acted (act.Load kind rd address) around pc thread =
    grows-unless (read_denied around.perm around.domain address (load_size kind)) address pc around thread _ (same around thread.buffer)
grows-acted (act.Store size address value) around pc thread =
    unless-written (λ deed. Grows around thread.buffer (buffer_of deed)) around address size pc thread _ (λ kind. same around thread.buffer)
    (λ e f. record { rest = record { address = address; size = size; value = value } ∷ []; split = refl; allowed = (f, tt) })
grows-acted (act.Locked locked.Lr rd address operand) around pc thread =
    grows-unless (read_denied around.perm around.domain address 4) address pc around thread _ (same around thread.buffer)
grows-acted (act.Locked locked.Sc rd address operand) around pc thread =
    grows-unless (write_denied around.perm around.domain address 4) address pc around thread _ (by (holds_reservation thread.reserved (granule_at (place_of around.domain address)))) where
      by : (b : Bool) → Grows around thread.buffer (buffer_of (stored_if b rd address operand pc thread))
      by true = same around thread.buffer
      by false = same around thread.buffer
grows-acted (act.Locked (locked.Amo kind) rd address operand) around pc thread =
    grows-unless (write_denied around.perm around.domain address 4) address pc around thread _ (same around thread.buffer)
grows-acted (act.Fence drains) around pc thread = same around thread.buffer
grows-acted act.Call around pc thread = grows-called (register thread.regs 17) (register thread.regs 10) around.hart pc around thread
grows-acted (act.Jumped target) around pc thread = same around thread.buffer
grows-acted act.Broke around pc thread = same around thread.buffer

-- ---- what of any deed is known of one that is done

-- what is true of each deed of the instruction is true of the deed
pub of_deed : (P : Found → Deed → Type 0) (around : Around) (pc : ℕ) (thread : Thread)
    → P Outside (Alone (faulted fault.Fetch pc pc thread)) → ((word : ℕ) → P (Unknown word) (Alone (faulted fault.Illegal word pc thread)))
    → ((asked : Act) → P (Asks asked) (acted asked around pc thread))
    → (found : Found) (deed : Deed) → carried_out found around pc thread ≡ Some deed → P found deed
of_deed P around pc thread outside unknown asks Outside deed e = subst (P Outside) (same_Some _ _ e) outside
of_deed P around pc thread outside unknown asks (Unknown word) deed e = subst (P (Unknown word)) (same_Some _ _ e) (unknown word)
of_deed P around pc thread outside unknown asks (Asks asked) deed e = by (must_wait asked thread.buffer) e where
  by : (b : Bool) → (if b then None else Some (acted asked around pc thread)) ≡ Some deed → P (Asks asked) deed
  by true e = let never : ⊥ = cc in absurd never
  by false e = subst (P (Asks asked)) (same_Some _ _ e) (asks asked)

pub grows : (found : Found) (around : Around) (pc : ℕ) (thread : Thread) (deed : Deed) → carried_out found around pc thread ≡ Some deed → Grows around thread.buffer (buffer_of deed)
unfolding buffer_of
grows found around pc thread deed e = of_deed (λ found deed. Grows around thread.buffer (buffer_of deed)) around pc thread (same around thread.buffer) (λ word. same around thread.buffer)
    (λ asked. grows-acted asked around pc thread) found deed e

-- ---- a store at once

pub record IsStoreOf (found : Found) (around : Around) (store : PendingView) : Type 0 where
  pub writes : writes_at_once found ≡ true
  pub needs : need_in found around.domain ≡ Some (record { page = page_at (place_of around.domain store.address); write = true })
  pub allowed : may_write (around.perm (page_at (place_of around.domain store.address))) ≡ true

pub IsStoring : Found → Around → Deed → Type 0
IsStoring found around (Alone thread) = Unit {0}
IsStoring found around (Storing thread store) = IsStoreOf found around store

alone-unless : (found : Found) (around : Around) (denied : Option FaultKind) (address pc : ℕ) (thread new : Thread) → IsStoring found around (unless_denied denied address pc thread (Alone new))
unfolding IsStoring
alone-unless found around None address pc thread new = tt
alone-unless found around (Some kind) address pc thread new = tt

-- a locked operation that stores, unless it is denied
storing-unless : (kind : LockedKind) (rd address operand : ℕ) (around : Around) (pc : ℕ) (thread : Thread) (deed : Deed)
    → ((address % 4 == 0) ≡ true → may_write (around.perm (page_at (place_of around.domain address))) ≡ true → IsStoring (Asks (act.Locked kind rd address operand)) around deed)
    → IsStoring (Asks (act.Locked kind rd address operand)) around (unless_denied (write_denied around.perm around.domain address 4) address pc thread deed)
unfolding IsStoring
storing-unless kind rd address operand around pc thread deed given =
    unless-written (IsStoring (Asks (act.Locked kind rd address operand)) around) around address 4 pc thread deed (λ fault. tt) given

storing-acted : (asked : Act) (around : Around) (pc : ℕ) (thread : Thread) → IsStoring (Asks asked) around (acted asked around pc thread)
unfolding IsStoring
storing-acted (act.Next rd value next) around pc thread = tt
storing-acted (act.Load kind rd address) around pc thread =
    alone-unless (Asks (act.Load kind rd address)) around (read_denied around.perm around.domain address (load_size kind)) address pc thread _
storing-acted (act.Store size address value) around pc thread =
    alone-unless (Asks (act.Store size address value)) around (write_denied around.perm around.domain address size) address pc thread _
storing-acted (act.Locked locked.Lr rd address operand) around pc thread =
    alone-unless (Asks (act.Locked locked.Lr rd address operand)) around (read_denied around.perm around.domain address 4) address pc thread _
storing-acted (act.Locked locked.Sc rd address operand) around pc thread = storing-unless locked.Sc rd address operand around pc thread
    (stored_if (holds_reservation thread.reserved (granule_at (place_of around.domain address))) rd address operand pc thread)
    (λ e f. by e f (holds_reservation thread.reserved (granule_at (place_of around.domain address))))
  where
    by : (address % 4 == 0) ≡ true → may_write (around.perm (page_at (place_of around.domain address))) ≡ true → (b : Bool)
        → IsStoring (Asks (act.Locked locked.Sc rd address operand)) around (stored_if b rd address operand pc thread)
    by e f true = record { writes = refl; needs = ap (λ b. if b then Some (record { page = page_at (place_of around.domain address); write = true }) else None) e; allowed = f }
    by e f false = tt
storing-acted (act.Locked (locked.Amo kind) rd address operand) around pc thread = storing-unless (locked.Amo kind) rd address operand around pc thread _
    (λ e f. record { writes = refl; needs = ap (λ b. if b then Some (record { page = page_at (place_of around.domain address); write = true }) else None) e; allowed = f })
storing-acted (act.Fence drains) around pc thread = tt
storing-acted act.Call around pc thread = tt
storing-acted (act.Jumped target) around pc thread = tt
storing-acted act.Broke around pc thread = tt

pub storing : (found : Found) (around : Around) (pc : ℕ) (thread new : Thread) (store : PendingView) → carried_out found around pc thread ≡ Some (Storing new store) → IsStoreOf found around store
unfolding IsStoring
storing found around pc thread new store e = of_deed (λ found deed. IsStoring found around deed) around pc thread tt (λ word. tt)
    (λ asked. storing-acted asked around pc thread) found (Storing new store) e
