-- A deed puts no store into a queue that is full.
use Rattle.std.proofs.Common.{◌≡◌, ◌≤◌, ℕ, ◌+◌, ◌%◌, ◌==◌, nat_lt, ltb-true, ltb-false, eq-eqb, Bool, true, false, ◌&&◌, ◌||◌, sym, refl, List, [], ◌∷◌, ◌++◌, length, Option, Some, None, ◌∙◌, arith}
use Rattle.std.specs.Prelude.{if◌then◌else◌}
use Rattle.std.proofs.lemmas.Bool.{false≢true}
use Rattle.mind_base.specs.Pending.{PendingView}
use Rattle.mind_base.specs.Place.{place_of, granule_at}
use Rattle.mind_base.specs.declared.ends.End.TheVariants.{Exit}
use Rattle.mind_base.specs.declared.ends.FaultKind.{FaultKind}
use Rattle.mind_base.specs.declared.ends.FaultKind.TheVariants as fault
use Rattle.hart_core.specs.Memory.{load_size}
use Rattle.hart_core.specs.Registers.{register}
use Rattle.hart_core.specs.Values.{word_sum}
use Rattle.hart_core.specs.declared.outcome.Act.{Act}
use Rattle.hart_core.specs.declared.outcome.Act.TheVariants as act
use Rattle.hart_core.specs.declared.outcome.LockedKind.TheVariants as locked
use Rattle.hart_effect.specs.Access.{Around, read_denied, write_denied}
use Rattle.hart_effect.specs.Deed.{Deed, acted, carried_out, called, faulted, put_out, continued, unless_denied, stored_if, holds_reservation, drains_first, must_wait, is_store}
use Rattle.hart_effect.specs.Thread.{Thread}
use Rattle.hart_effect.specs.declared.finds.Found.{Found}
use Rattle.rack_core.proofs.Moves.Blade.Deeds.{buffer_of, of_deed}

-- the thread's buffer has no more stores than places after the deed
abbrev FitsInto : ℕ → Deed → Type 0
FitsInto places deed = length (buffer_of deed) ≤ places

fits-unless : (denied : Option FaultKind) (address pc places : ℕ) (thread : Thread) (deed : Deed) → length thread.buffer ≤ places → FitsInto places deed
    → FitsInto places (unless_denied denied address pc thread deed)
unfolding buffer_of
fits-unless None address pc places thread deed room h = h
fits-unless (Some kind) address pc places thread deed room h = room

length-more : (stores : List PendingView) (store : PendingView) → length (stores ++ store ∷ []) ≡ length stores + 1
length-more [] store = refl
length-more (first ∷ stores) store = omega (arith, length-more stores store)

-- a queue that is not full has room for one more
room-more : (stores : List PendingView) (store : PendingView) (places : ℕ) → length stores ≤ places → (length stores == places) ≡ false → length (stores ++ store ∷ []) ≤ places
room-more stores store places room e = by (nat_lt (length stores) places) refl where
  by : (b : Bool) → nat_lt (length stores) places ≡ b → length (stores ++ store ∷ []) ≤ places
  by true lt = omega (arith, ltb-true (length stores) places lt, length-more stores store)
  by false ge =
      let past : places ≤ length stores = ltb-false (length stores) places ge in
      let same : length stores ≡ places = omega (arith, past) in
      absurd (false≢true (sym e ∙ eq-eqb (length stores) places same))

full : (wait full : Bool) → (wait || (true && full)) ≡ false → full ≡ false
full false b e = e
full true b e = let never : ⊥ = cc in absurd never

fits-called : (number a0 hart pc places : ℕ) (thread : Thread) → length thread.buffer ≤ places → length (called number a0 hart pc thread).buffer ≤ places
fits-called number a0 hart pc places thread room = by (number == 1) (number == 2) (number == 3) where
  by : (a b c : Bool) → length (if a then put_out (a0 % 256) pc thread
      else (if b then record thread { end = Exit a0 } else (if c then continued 10 hart (word_sum pc 4) thread else faulted fault.Call number pc thread))).buffer ≤ places
  by true b c = room
  by false true c = room
  by false false true = room
  by false false false = room

fits-acted : (asked : Act) (around : Around) (pc places : ℕ) (thread : Thread) → length thread.buffer ≤ places
    → (must_wait asked thread.buffer || is_store asked && length thread.buffer == places) ≡ false → FitsInto places (acted asked around pc thread)
unfolding buffer_of
fits-acted (act.Next rd value next) around pc places thread room ready = room
fits-acted (act.Load kind rd address) around pc places thread room ready =
    fits-unless (read_denied around.perm around.domain address (load_size kind)) address pc places thread _ room room
fits-acted (act.Store size address value) around pc places thread room ready =
    fits-unless (write_denied around.perm around.domain address size) address pc places thread _ room
    (room-more thread.buffer (record { address = address; size = size; value = value }) places room
    (full (must_wait (act.Store size address value) thread.buffer) (length thread.buffer == places) ready))
fits-acted (act.Locked locked.Lr rd address operand) around pc places thread room ready =
    fits-unless (read_denied around.perm around.domain address 4) address pc places thread _ room room
fits-acted (act.Locked locked.Sc rd address operand) around pc places thread room ready =
    fits-unless (write_denied around.perm around.domain address 4) address pc places thread _ room (by (holds_reservation thread.reserved (granule_at (place_of around.domain address)))) where
      by : (b : Bool) → FitsInto places (stored_if b rd address operand pc thread)
      by true = room
      by false = room
fits-acted (act.Locked (locked.Amo kind) rd address operand) around pc places thread room ready =
    fits-unless (write_denied around.perm around.domain address 4) address pc places thread _ room room
fits-acted (act.Fence drains) around pc places thread room ready = room
fits-acted act.Call around pc places thread room ready = fits-called (register thread.regs 17) (register thread.regs 10) around.hart pc places thread room
fits-acted (act.Jumped target) around pc places thread room ready = room
fits-acted act.Broke around pc places thread room ready = room

-- where no store must drain first, the deed's stores have room
pub deed_fits : (found : Found) (around : Around) (pc places : ℕ) (thread : Thread) (deed : Deed) → length thread.buffer ≤ places → drains_first found thread.buffer places ≡ false
    → carried_out found around pc thread ≡ Some deed → length (buffer_of deed) ≤ places
unfolding buffer_of
deed_fits found around pc places thread deed room ready e = of_deed (λ found deed. drains_first found thread.buffer places ≡ false → FitsInto places deed) around pc thread
    (λ r. room) (λ word r. room) (λ asked r. fits-acted asked around pc places thread room r) found deed e ready
