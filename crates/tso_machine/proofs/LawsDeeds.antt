-- What a thread does by a label: its deed, with the store that it executes and the store that takes effect.
use Rattle.std.proofs.Common.{◌≡◌, ℕ, Bool, true, false, cond, ◌∙◌, ap, refl, subst, ◌%◌, List, [], ◌∷◌, ◌++◌, Option, Some, None}
use Rattle.std.specs.Prelude.{◌==◌, if◌then◌else◌}
use Rattle.std.specs.List.{slice_get}
use Rattle.std.specs.Option.{option_map, option_and_then}
use Rattle.std.proofs.lemmas.Option.{same_Some, none-some, option_and_then_some}
use Rattle.hart_core.specs.declared.outcome.Act.{Act}
use Rattle.hart_core.specs.declared.outcome.Act.TheVariants as act
use Rattle.hart_core.specs.declared.outcome.LockedKind.{LockedKind}
use Rattle.hart_core.specs.declared.outcome.LockedKind.TheVariants as locked
use Rattle.hart_core.specs.Registers.{register}
use Rattle.hart_core.specs.Values.{word_sum}
use Rattle.mind_base.specs.Pending.{PendingView}
use Rattle.mind_base.specs.declared.ends.End.{End}
use Rattle.mind_base.specs.declared.ends.End.TheVariants.{Running, Exit, Fault}
use Rattle.mind_base.specs.declared.ends.FaultKind.{FaultKind}
use Rattle.mind_base.specs.declared.ends.FaultKind.TheVariants as fault
use Rattle.mind_base.specs.declared.images.Image.{Image}
use Rattle.mind_base.specs.declared.plans.ThreadPlan.{ThreadPlan}
use Rattle.hart_effect.specs.Thread.{Thread}
use Rattle.tso_machine.specs.State.{Setup, State}
use Rattle.mind_base.specs.Place.{place_of, granule_at}
use Rattle.hart_effect.specs.Access.{Around, read_denied, write_denied}
use Rattle.hart_effect.specs.Deed.{Deed, Alone, Storing, faulted, continued, put_out, unless_denied, called, locked_done, holds_reservation, stored_if, acted, must_wait, holds_stores, found, carried_out, executed_at, executed, drained_of, drain_deed}
use Rattle.tso_machine.specs.Step.{around_in, done_by, after}
use Rattle.tso_machine.specs.Orders.{store_event, effect_of, in_effect, unless_refused, store_by, store_upon, store_at, executes, performs}
use Rattle.hart_effect.specs.declared.finds.Found.{Found}
use Rattle.hart_effect.specs.declared.finds.Found.TheVariants.{Outside, Unknown, Asks}
use Rattle.tso_machine.specs.declared.labels.Label.{Label}
use Rattle.tso_machine.specs.declared.labels.Label.TheVariants as label

-- the thread after its deed
abbrev pub thread_of : Deed → Thread
thread_of (Alone thread) = thread
thread_of (Storing thread store) = thread

-- What a deed does to the buffer of a thread that executes a store, or none: the buffer stays; the store
-- goes behind it; the store takes effect at once, and the buffer is empty; or the oldest takes effect.
pub data Changes (buffer : List PendingView) (deed : Deed) (store : Option PendingView) : Type 0 where
  Stays : store ≡ None → in_effect deed ≡ None → (thread_of deed).buffer ≡ buffer → Changes buffer deed store
  Waits : (s : PendingView) → store ≡ Some s → in_effect deed ≡ None → (thread_of deed).buffer ≡ buffer ++ s ∷ [] → Changes buffer deed store
  AtOnce : (s : PendingView) → store ≡ Some s → in_effect deed ≡ Some s → buffer ≡ [] → (thread_of deed).buffer ≡ [] → Changes buffer deed store
  Drains : (s : PendingView) → store ≡ None → in_effect deed ≡ Some s → buffer ≡ s ∷ (thread_of deed).buffer → Changes buffer deed store

-- ---- an instruction

denied-buffer : (d : Option FaultKind) (address pc : ℕ) (thread : Thread) (deed : Deed) → (thread_of deed).buffer ≡ thread.buffer
    → (thread_of (unless_denied d address pc thread deed)).buffer ≡ thread.buffer
denied-buffer None address pc thread deed e = e
denied-buffer (Some kind) address pc thread deed e = refl

load-changes : (d : Option FaultKind) (address pc : ℕ) (thread next : Thread) → next.buffer ≡ thread.buffer
    → Changes thread.buffer (unless_denied d address pc thread (Alone next)) None
load-changes None address pc thread next e = Stays refl refl e
load-changes (Some kind) address pc thread next e = Stays refl refl refl

store-changes : (d : Option FaultKind) (address pc : ℕ) (thread next : Thread) (s : PendingView) → next.buffer ≡ thread.buffer ++ s ∷ []
    → Changes thread.buffer (unless_denied d address pc thread (Alone next)) (unless_refused d s)
store-changes None address pc thread next s e = Waits s refl refl e
store-changes (Some kind) address pc thread next s e = Stays refl refl refl

locked-changes : (thread : Thread) (deed : Deed) → (thread_of deed).buffer ≡ thread.buffer → thread.buffer ≡ [] → Changes thread.buffer deed (in_effect deed)
locked-changes thread (Alone next) e empty = Stays refl refl e
locked-changes thread (Storing next s) e empty = AtOnce s refl refl empty (e ∙ empty)

conditional-buffer : (b : Bool) (rd address operand pc : ℕ) (thread : Thread) → (thread_of (stored_if b rd address operand pc thread)).buffer ≡ thread.buffer
conditional-buffer true rd address operand pc thread = refl
conditional-buffer false rd address operand pc thread = refl

pub locked-buffer : (kind : LockedKind) (rd address operand : ℕ) (around : Around) (pc : ℕ) (thread : Thread)
    → (thread_of (locked_done kind rd address operand around pc thread)).buffer ≡ thread.buffer
locked-buffer locked.Lr rd address operand around pc thread = denied-buffer (read_denied around.perm around.domain address 4) address pc thread _ refl
locked-buffer locked.Sc rd address operand around pc thread = denied-buffer (write_denied around.perm around.domain address 4) address pc thread _
    (conditional-buffer (holds_reservation thread.reserved (granule_at (place_of around.domain address))) rd address operand pc thread)
locked-buffer (locked.Amo kind) rd address operand around pc thread = denied-buffer (write_denied around.perm around.domain address 4) address pc thread _ refl

either-buffer : (b : Bool) (x y thread : Thread) → x.buffer ≡ thread.buffer → y.buffer ≡ thread.buffer → (cond b x y).buffer ≡ thread.buffer
either-buffer true x y thread e g = e
either-buffer false x y thread e g = g

called-buffer : (number a0 hart pc : ℕ) (thread : Thread) → (called number a0 hart pc thread).buffer ≡ thread.buffer
called-buffer number a0 hart pc thread =
    let asks = either-buffer (number == 3) (continued 10 hart (word_sum pc 4) thread) (faulted fault.Call number pc thread) thread refl refl in
    let exits = either-buffer (number == 2) (record thread { end = Exit a0 })
    (if number == 3 then continued 10 hart (word_sum pc 4) thread else faulted fault.Call number pc thread) thread refl asks in
    either-buffer (number == 1) (put_out (a0 % 256) pc thread) (if number == 2 then record thread { end = Exit a0 }
    else (if number == 3 then continued 10 hart (word_sum pc 4) thread else faulted fault.Call number pc thread)) thread refl exits

-- the buffer is empty where none waits
pub nothing-waits : (buffer : List PendingView) → holds_stores buffer ≡ false → buffer ≡ []
nothing-waits [] e = refl
nothing-waits (store ∷ stores) e = absurd (cc)

acted-changes : (asked : Act) (around : Around) (pc : ℕ) (thread : Thread) → must_wait asked thread.buffer ≡ false
    → Changes thread.buffer (acted asked around pc thread) (store_by asked around pc thread)
acted-changes (act.Next rd value next) around pc thread free = Stays refl refl refl
acted-changes (act.Load kind rd address) around pc thread free = load-changes _ address pc thread _ refl
acted-changes (act.Store size address value) around pc thread free = store-changes (write_denied around.perm around.domain address size) address pc thread _ _ refl
acted-changes (act.Locked kind rd address operand) around pc thread free =
    locked-changes thread (locked_done kind rd address operand around pc thread) (locked-buffer kind rd address operand around pc thread) (nothing-waits thread.buffer free)
acted-changes (act.Fence drains) around pc thread free = Stays refl refl refl
acted-changes act.Call around pc thread free = Stays refl refl (called-buffer (register thread.regs 17) (register thread.regs 10) around.hart pc thread)
acted-changes (act.Jumped target) around pc thread free = Stays refl refl refl
acted-changes act.Broke around pc thread free = Stays refl refl refl

upon-changes : (f : Found) (around : Around) (pc : ℕ) (thread : Thread) (deed : Deed) → carried_out f around pc thread ≡ Some deed
    → Changes thread.buffer deed (store_upon f around pc thread)
upon-changes Outside around pc thread deed e =
    let P : Deed → Type 0 = λ d. Changes thread.buffer d None in subst P (same_Some _ _ e) (Stays refl refl refl)
upon-changes (Unknown word) around pc thread deed e =
    let P : Deed → Type 0 = λ d. Changes thread.buffer d None in subst P (same_Some _ _ e) (Stays refl refl refl)
upon-changes (Asks asked) around pc thread deed e = by_wait (must_wait asked thread.buffer) refl e where
  by_wait : (b : Bool) → must_wait asked thread.buffer ≡ b → cond b None (Some (acted asked around pc thread)) ≡ Some deed
      → Changes thread.buffer deed (store_by asked around pc thread)
  by_wait true is e = absurd (none-some _ e)
  by_wait false is e =
      let P : Deed → Type 0 = λ d. Changes thread.buffer d (store_by asked around pc thread) in
      subst P (same_Some _ _ e) (acted-changes asked around pc thread is)

exec-changes : (end : End) (image : Image) (around : Around) (thread : Thread) (deed : Deed) → executed_at end image around thread ≡ Some deed
    → Changes thread.buffer deed (store_at end image around thread)
exec-changes (Running pc) image around thread deed e = upon-changes (found image thread.regs pc) around pc thread deed e
exec-changes (Exit value) image around thread deed e = absurd (none-some _ e)
exec-changes (Fault kind value pc) image around thread deed e = absurd (none-some _ e)

-- ---- a drain

drain-changes : (buffer : List PendingView) (thread : Thread) (deed : Deed) → drained_of buffer thread ≡ Some deed
    → Changes buffer deed None × (slice_get buffer 0 ≡ in_effect deed)
drain-changes [] thread deed e = absurd (none-some _ e)
drain-changes (oldest ∷ newer) thread deed e =
    let P : Deed → Type 0 = λ d. Changes (oldest ∷ newer) d None × (slice_get (oldest ∷ newer) 0 ≡ in_effect d) in
    subst P (same_Some _ _ e) (Drains oldest refl refl refl, refl)

-- ---- a label of a thread

-- a thread does its deed by a label
pub record Stepped (u : Setup) (s m : State) (l : Label) (hart : ℕ) : Type 0 where
  pub plan : ThreadPlan
  pub planned : slice_get u.plan.threads hart ≡ Some plan
  pub thread : Thread
  pub there : slice_get s.threads hart ≡ Some thread
  pub deed : Deed
  pub leads : done_by hart plan.domain s deed ≡ m
  pub store : Option PendingView
  pub changes : Changes thread.buffer deed store
  pub executed : executes u s l ≡ option_map (store_event hart plan.domain) store
  pub performed : performs u s l ≡ option_map (effect_of hart plan.domain) (in_effect deed)

-- what a mapped option is made from
pub mapped-some : {X Y : Type 0} (f : X → Y) (o : Option X) (y : Y) → option_map f o ≡ Some y → (x : X) × (o ≡ Some x) × (f x ≡ y)
mapped-some f None y e = absurd (none-some y e)
mapped-some f (Some x) y e = (x, refl, same_Some _ _ e)

-- so it does where this is its deed, and these are the store and the effect of it
stepped-by : (u : Setup) (s m : State) (l : Label) (hart : ℕ) (plan : ThreadPlan) (thread : Thread) (o : Option Deed) (store : Option PendingView)
    → slice_get u.plan.threads hart ≡ Some plan → slice_get s.threads hart ≡ Some thread → option_map (done_by hart plan.domain s) o ≡ Some m
    → ((deed : Deed) → o ≡ Some deed → Changes thread.buffer deed store)
    → executes u s l ≡ option_map (store_event hart plan.domain) store
    → ((deed : Deed) → o ≡ Some deed → performs u s l ≡ option_map (effect_of hart plan.domain) (in_effect deed))
    → Stepped u s m l hart
stepped-by u s m l hart plan thread o store planned there k changes executed performed =
    let d = mapped-some (done_by hart plan.domain s) o m k in
    record {
      plan = plan;
      planned = planned;
      thread = thread;
      there = there;
      deed = d.0;
      leads = d.2;
      store = store;
      changes = changes d.0 d.1;
      executed = executed;
      performed = performed d.0 d.1;
    }

pub stepped-exec : (u : Setup) (s m : State) (hart : ℕ) → after u s (label.Exec hart) ≡ Some m → Stepped u s m (label.Exec hart) hart
stepped-exec u s m hart e =
    option_and_then_some _ (slice_get u.plan.threads hart) m e (λ plan planned g.
    option_and_then_some _ (slice_get u.images plan.image) m g (λ image found i.
    option_and_then_some _ (slice_get s.threads hart) m i (λ thread there k.
    let around = around_in s hart plan.domain in
    stepped-by u s m (label.Exec hart) hart plan thread (executed image around thread) (store_at thread.end image around thread) planned there k
    (exec-changes thread.end image around thread)
    (rw (planned, found, there) refl)
    (λ deed does. rw (planned, found, there) (ap (λ o. option_map (effect_of hart plan.domain) (option_and_then in_effect o)) does)))))

pub stepped-drain : (u : Setup) (s m : State) (hart : ℕ) → after u s (label.Drain hart) ≡ Some m → Stepped u s m (label.Drain hart) hart
stepped-drain u s m hart e =
    option_and_then_some _ (slice_get u.plan.threads hart) m e (λ plan planned g.
    option_and_then_some _ (slice_get s.threads hart) m g (λ thread there k.
    stepped-by u s m (label.Drain hart) hart plan thread (drain_deed thread) None planned there k
    (λ deed does. (drain-changes thread.buffer thread deed does).0)
    refl
    (λ deed does. let changes = drain-changes thread.buffer thread deed does in rw (planned, there, changes.1) refl)))
