-- Stores that a deed puts into a hart's queue, or lets take effect, have 1, 2 or 4 bytes and stand at multiples of their sizes.
use Rattle.std.proofs.Common.{◌≡◌, ℕ, ◌%◌, ◌==◌, inl, inr, Bool, true, false, refl, List, Option, Some, None}
use Rattle.std.specs.Prelude.{if◌then◌else◌}
use Rattle.std.proofs.lemmas.Bool.{eqb-true}
use Rattle.rv32_decode.specs.declared.instruction.Instr.{Instr}
use Rattle.rv32_decode.specs.declared.instruction.Instr.TheVariants as instr
use Rattle.rv32_decode.specs.declared.instruction.StoreKind.{StoreKind}
use Rattle.rv32_decode.specs.declared.instruction.StoreKind.TheVariants.{Sb, Sh, Sw}
use Rattle.rv32_decode.specs.Instr.{instr_of}
use Rattle.mind_base.specs.Pending.{PendingView, IsPending}
use Rattle.mind_base.specs.declared.ends.End.TheVariants.{Exit}
use Rattle.mind_base.specs.declared.ends.FaultKind.{FaultKind}
use Rattle.mind_base.specs.declared.ends.FaultKind.TheVariants as fault
use Rattle.mind_base.specs.declared.images.Image.{Image}
use Rattle.hart_core.specs.Act.{act_of, goes_to}
use Rattle.hart_core.specs.Memory.{load_size, store_size, IsAccessSize}
use Rattle.hart_core.specs.Registers.{register}
use Rattle.hart_core.specs.Values.{word_sum, word_from, is_taken}
use Rattle.hart_core.specs.declared.outcome.Act.{Act}
use Rattle.hart_core.specs.declared.outcome.Act.TheVariants as act
use Rattle.hart_core.specs.declared.outcome.LockedKind.TheVariants as locked
use Rattle.hart_effect.specs.Access.{Around, read_denied}
use Rattle.hart_effect.specs.Deed.{Deed, Alone, Storing, found, found_word, found_instr, word_at, acted, carried_out, called, faulted, put_out, continued, unless_denied, stored_if, holds_reservation}
use Rattle.mind_base.specs.Place.{place_of, granule_at}
use Rattle.hart_effect.specs.Thread.{Thread}
use Rattle.hart_effect.specs.declared.finds.Found.{Found}
use Rattle.hart_effect.specs.declared.finds.Found.TheVariants.{Outside, Unknown, Asks}
use Rattle.rack_core.specs.StandRuns.{ArePending}
use Rattle.rack_core.proofs.Moves.Blade.Deeds.{of_deed, unless-written}
use Rattle.rack_core.proofs.Lists.Parts.{all-last}

-- ---- what is found

-- a store that is asked for has 1, 2 or 4 bytes
unfoldable pub AsksSize : Act → Type 0
AsksSize (act.Next rd value next) = Unit {0}
AsksSize (act.Load kind rd address) = Unit {0}
AsksSize (act.Store size address value) = IsAccessSize size
AsksSize (act.Locked kind rd address operand) = Unit {0}
AsksSize (act.Fence drains) = Unit {0}
AsksSize act.Call = Unit {0}
AsksSize (act.Jumped target) = Unit {0}
AsksSize act.Broke = Unit {0}

abbrev pub FindsSize : Found → Type 0
FindsSize Outside = Unit {0}
FindsSize (Unknown word) = Unit {0}
FindsSize (Asks asked) = AsksSize asked

store_sizes : (kind : StoreKind) → IsAccessSize (store_size kind)
store_sizes Sb = inl refl
store_sizes Sh = inr (inl refl)
store_sizes Sw = inr (inr refl)

goes-size : (b : Bool) (rd value target : ℕ) → AsksSize (if b then act.Next rd value target else act.Jumped target)
unfolding AsksSize
goes-size true rd value target = tt
goes-size false rd value target = tt

branch-size : (b : Bool) (taken : Act) (rd value next : ℕ) → AsksSize taken → AsksSize (if b then taken else act.Next rd value next)
unfolding AsksSize
branch-size true taken rd value next h = h
branch-size false taken rd value next h = tt

act-size : (i : Instr) (regs : List ℕ) (pc : ℕ) → AsksSize (act_of i regs pc)
unfolding AsksSize act_of
act-size (instr.Lui rd imm) regs pc = tt
act-size (instr.Auipc rd imm) regs pc = tt
act-size (instr.Jal rd offset) regs pc = goes-size _ _ _ _
act-size (instr.Jalr rd rs1 offset) regs pc = goes-size _ _ _ _
act-size (instr.Branch kind rs1 rs2 offset) regs pc = branch-size (is_taken kind (register regs rs1) (register regs rs2)) (goes_to 0 0 (word_sum pc (word_from offset))) 0 0 (word_sum pc 4) (goes-size _ _ _ _)
act-size (instr.Load kind rd rs1 offset) regs pc = tt
act-size (instr.Store kind rs1 rs2 offset) regs pc = store_sizes kind
act-size (instr.OpImm kind rd rs1 imm) regs pc = tt
act-size (instr.Op kind rd rs1 rs2) regs pc = tt
act-size (instr.Fence fm pred succ rd rs1) regs pc = tt
act-size instr.Ecall regs pc = tt
act-size instr.Ebreak regs pc = tt
act-size (instr.Lr rd rs1 aq rl) regs pc = tt
act-size (instr.Sc rd rs1 rs2 aq rl) regs pc = tt
act-size (instr.Amo kind rd rs1 rs2 aq rl) regs pc = tt

instr-size : (i : Option Instr) (word : ℕ) (regs : List ℕ) (pc : ℕ) → FindsSize (found_instr i word regs pc)
instr-size None word regs pc = tt
instr-size (Some i) word regs pc = act-size i regs pc

word-size : (word : Option ℕ) (regs : List ℕ) (pc : ℕ) → FindsSize (found_word word regs pc)
word-size None regs pc = tt
word-size (Some word) regs pc = instr-size (instr_of word) word regs pc

pub found-size : (image : Image) (regs : List ℕ) (pc : ℕ) → FindsSize (found image regs pc)
found-size image regs pc = word-size (word_at image pc) regs pc

-- ---- what is done

-- the stores of a deed
unfoldable pub IsPendingDeed : Deed → Type 0
IsPendingDeed (Alone thread) = ArePending thread.buffer
IsPendingDeed (Storing thread store) = ArePending thread.buffer × IsPending store.address store.size

pending-unless : (denied : Option FaultKind) (address pc : ℕ) (thread : Thread) (deed : Deed) → ArePending thread.buffer → IsPendingDeed deed → IsPendingDeed (unless_denied denied address pc thread deed)
unfolding IsPendingDeed
pending-unless None address pc thread deed all h = h
pending-unless (Some kind) address pc thread deed all h = all

pending-called : (number a0 hart pc : ℕ) (thread : Thread) → ArePending thread.buffer → ArePending (called number a0 hart pc thread).buffer
pending-called number a0 hart pc thread all = by (number == 1) (number == 2) (number == 3) where
  by : (a b c : Bool) → ArePending (if a then put_out (a0 % 256) pc thread
      else (if b then record thread { end = Exit a0 } else (if c then continued 10 hart (word_sum pc 4) thread else faulted fault.Call number pc thread))).buffer
  by true b c = all
  by false true c = all
  by false false true = all
  by false false false = all

pending-acted : (asked : Act) (around : Around) (pc : ℕ) (thread : Thread) → AsksSize asked → ArePending thread.buffer → IsPendingDeed (acted asked around pc thread)
unfolding IsPendingDeed AsksSize
pending-acted (act.Next rd value next) around pc thread size all = all
pending-acted (act.Load kind rd address) around pc thread size all =
    pending-unless (read_denied around.perm around.domain address (load_size kind)) address pc thread _ all all
pending-acted (act.Store size address value) around pc thread fits all =
    unless-written IsPendingDeed around address size pc thread _ (λ kind. all)
    (λ e f. all-last (λ (store : PendingView). IsPending store.address store.size) thread.buffer (record { address = address; size = size; value = value }) all (fits, eqb-true (address % size) 0 e))
pending-acted (act.Locked locked.Lr rd address operand) around pc thread size all =
    pending-unless (read_denied around.perm around.domain address 4) address pc thread _ all all
pending-acted (act.Locked locked.Sc rd address operand) around pc thread size all =
    unless-written IsPendingDeed around address 4 pc thread _ (λ kind. all) (λ e f. by e (holds_reservation thread.reserved (granule_at (place_of around.domain address)))) where
      by : (address % 4 == 0) ≡ true → (b : Bool) → IsPendingDeed (stored_if b rd address operand pc thread)
      by e true = (all, (inr (inr refl), eqb-true (address % 4) 0 e))
      by e false = all
pending-acted (act.Locked (locked.Amo kind) rd address operand) around pc thread size all =
    unless-written IsPendingDeed around address 4 pc thread _ (λ kind. all) (λ e f. (all, (inr (inr refl), eqb-true (address % 4) 0 e)))
pending-acted (act.Fence drains) around pc thread size all = all
pending-acted act.Call around pc thread size all = pending-called (register thread.regs 17) (register thread.regs 10) around.hart pc thread all
pending-acted (act.Jumped target) around pc thread size all = all
pending-acted act.Broke around pc thread size all = all

pub pending-done : (found : Found) (around : Around) (pc : ℕ) (thread : Thread) (deed : Deed) → FindsSize found → ArePending thread.buffer → carried_out found around pc thread ≡ Some deed → IsPendingDeed deed
unfolding IsPendingDeed
pending-done found around pc thread deed fits all e = of_deed (λ found deed. FindsSize found → IsPendingDeed deed) around pc thread (λ s. all) (λ word s. all)
    (λ asked s. pending-acted asked around pc thread s all) found deed e fits
