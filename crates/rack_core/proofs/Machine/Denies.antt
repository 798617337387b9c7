-- A page that is denied, with what waited for it, leads the machine on: the permissions deny the access there too.
use Rattle.std.proofs.Common.{◌≡◌, ℕ, ◌%◌, ◌==◌, ◌∙◌, Bool, true, false, ap, sym, refl, subst, List, ◌∷◌, Option, Some, None, slice_get, option_map}
use Rattle.std.specs.Prelude.{if◌then◌else◌, option_and_then}
use Rattle.std.proofs.lemmas.Bool.{or_parts}
use Rattle.std.proofs.lemmas.Option.{same_Some}
use Rattle.mind_base.specs.Page.{PageView}
use Rattle.mind_base.specs.Place.{place_of, page_at}
use Rattle.mind_base.specs.declared.commands.Perm.{Perm}
use Rattle.mind_base.specs.declared.commands.Perm.TheVariants.{No, R, Rw}
use Rattle.mind_base.specs.declared.ends.End.TheVariants.{Running}
use Rattle.mind_base.specs.declared.ends.FaultKind.{FaultKind}
use Rattle.mind_base.specs.declared.ends.FaultKind.TheVariants as fault
use Rattle.mind_base.specs.declared.images.Image.{Image}
use Rattle.mind_base.specs.declared.notes.Note.TheVariants as note
use Rattle.mind_base.specs.Permission.{allows, may_read, may_write}
use Rattle.hart_core.specs.Memory.{load_size}
use Rattle.hart_core.specs.declared.outcome.Act.{Act}
use Rattle.hart_core.specs.declared.outcome.Act.TheVariants as act
use Rattle.hart_core.specs.declared.outcome.LockedKind.TheVariants as locked
use Rattle.hart_effect.specs.Access.{Around, denied}
use Rattle.hart_effect.specs.Deed.{Deed, Alone, found, acted, carried_out, executed, executed_at, faulted, unless_denied, must_wait, drains_first}
use Rattle.hart_effect.specs.Thread.{Thread}
use Rattle.hart_effect.specs.declared.finds.Found.{Found}
use Rattle.hart_effect.specs.declared.finds.Found.TheVariants.{Outside, Unknown, Asks}
use Rattle.page_image.specs.PageImage.{PageImageView}
use Rattle.protect_table.specs.Protect.{permission_at}
use Rattle.wire_msg.specs.declared.msgs.Msg.{Msg}
use Rattle.wire_msg.specs.declared.msgs.Msg.TheVariants.{Deny}
use Rattle.compute_blade.specs.Blade.{HartView, BladeView, noting, with_hart}
use Rattle.compute_blade.specs.Denials.{denial_in, faulting, refused_by}
use Rattle.compute_blade.specs.Messages.{after_message, need_asked, needs_just, resumed_by}
use Rattle.compute_blade.specs.Steps.{need_at, need_in}
use Rattle.compute_blade.specs.declared.kept.Answer.TheVariants.{Denied}
use Rattle.compute_blade.specs.declared.kept.Denial.{Denial}
use Rattle.compute_blade.specs.declared.kept.Need.{Need}
use Rattle.compute_blade.specs.declared.kept.Waits.{Waits}
use Rattle.compute_blade.specs.declared.kept.Waits.TheVariants.{Step, Drain}
use Rattle.coherence.specs.Facts.{IsCoherent}
use Rattle.tso_machine.specs.Replay.{advanced}
use Rattle.tso_machine.specs.State.{Setup, State}
use Rattle.tso_machine.specs.Step.{around_in, done_by, after_exec}
use Rattle.rack_core.specs.BladeMoves.{handing}
use Rattle.rack_core.specs.Rack.{RackView}
use Rattle.rack_core.specs.Seen.{seen}
use Rattle.rack_core.specs.Stands.{IsHartAt, RackStandsFor, machine_thread}
use Rattle.rack_core.specs.StandLog.{AreHartsPlaced}
use Rattle.rack_core.specs.StandRuns.{ArePending, GoesWith}
use Rattle.rack_core.proofs.Moves.Blade.Fills.{just-page}
use Rattle.rack_core.proofs.Moves.Blade.Answered.{was_denied}
use Rattle.rack_core.proofs.Machine.Ending.{answers-run}
use Rattle.rack_core.proofs.Machine.Blades.{Runs, idles, draining-runs, plan-one}
use Rattle.rack_core.proofs.Machine.Changes.{one-changed}
use Rattle.rack_core.proofs.Machine.Events.{became}
use Rattle.rack_core.proofs.Machine.Images.{newest-same}
use Rattle.rack_core.proofs.Machine.Mids.{one-of}
use Rattle.rack_core.proofs.Machine.Pages.{blade-held}
use Rattle.rack_core.proofs.Machine.Steps.{stands-alone}
use Rattle.rack_core.proofs.Moves.Blade.Resuming.{resumes-as}

-- ---- an access that the permission does not allow

unreadable : (perm : Perm) → allows false perm ≡ false → may_read perm ≡ false
unreadable No e = refl
unreadable R e = e
unreadable Rw e = e

unwritable : (perm : Perm) → allows true perm ≡ false → may_write perm ≡ false
unwritable No e = refl
unwritable R e = refl
unwritable Rw e = e

-- an access at a multiple of its size ends its thread by a fault
access-faults : (write : Bool) (kind : FaultKind) (can : Perm → Bool) (perms : PageView → Perm) (domain address size pc : ℕ) (thread : Thread) (deed : Deed)
    → ((perm : Perm) → allows write perm ≡ false → can perm ≡ false) → (need : Need) → need_at write domain address size ≡ Some need → allows need.write (perms need.page) ≡ false
    → unless_denied (denied kind can perms domain address size) address pc thread deed ≡ Alone (faulted kind address pc thread)
access-faults write kind can perms domain address size pc thread deed less need is off = by (address % size == 0) is where
  page : PageView
  page = page_at (place_of domain address)

  by : (b : Bool) → (if b then Some (record { page = page; write = write }) else None) ≡ Some need
      → unless_denied (if b then (if can (perms page) then None else Some kind) else Some fault.Align) address pc thread deed ≡ Alone (faulted kind address pc thread)
  by true e =
      let same : need ≡ record { page = page; write = write } = sym (same_Some _ _ e) in
      ap (λ c. unless_denied (if c then None else Some kind) address pc thread deed)
      (less (perms page) (subst (λ (n : Need). allows n.write (perms n.page) ≡ false) same off))
  by false e = let never : ⊥ = cc in absurd never

-- the fault is that of the denial
abbrev Faults : Option Denial → ℕ → Thread → Deed → Type 0
Faults None pc thread deed = ⊥
Faults (Some denial) pc thread deed = deed ≡ Alone (faulted denial.kind denial.address pc thread)

asked-faults : (asked : Act) (around : Around) (pc : ℕ) (thread : Thread) (need : Need) → need_in (Asks asked) around.domain ≡ Some need → allows need.write (around.perm need.page) ≡ false
    → Faults (denial_in (Asks asked)) pc thread (acted asked around pc thread)
asked-faults (act.Next rd value next) around pc thread need is off = let never : ⊥ = cc in absurd never
asked-faults (act.Load kind rd address) around pc thread need is off =
    access-faults false fault.Load may_read around.perm around.domain address (load_size kind) pc thread _ unreadable need is off
asked-faults (act.Store size address value) around pc thread need is off =
    access-faults true fault.Store may_write around.perm around.domain address size pc thread _ unwritable need is off
asked-faults (act.Locked locked.Lr rd address operand) around pc thread need is off =
    access-faults false fault.Load may_read around.perm around.domain address 4 pc thread _ unreadable need is off
asked-faults (act.Locked locked.Sc rd address operand) around pc thread need is off =
    access-faults true fault.Store may_write around.perm around.domain address 4 pc thread _ unwritable need is off
asked-faults (act.Locked (locked.Amo kind) rd address operand) around pc thread need is off =
    access-faults true fault.Store may_write around.perm around.domain address 4 pc thread _ unwritable need is off
asked-faults (act.Fence drains) around pc thread need is off = let never : ⊥ = cc in absurd never
asked-faults act.Call around pc thread need is off = let never : ⊥ = cc in absurd never
asked-faults (act.Jumped target) around pc thread need is off = let never : ⊥ = cc in absurd never
asked-faults act.Broke around pc thread need is off = let never : ⊥ = cc in absurd never

-- what was found is carried out by the fault of its denial
abbrev pub FaultsIn : Option Denial → ℕ → Thread → Option Deed → Type 0
FaultsIn None pc thread deed = ⊥
FaultsIn (Some denial) pc thread deed = deed ≡ Some (Alone (faulted denial.kind denial.address pc thread))

found-faults : (found : Found) (around : Around) (pc capacity : ℕ) (thread : Thread) (need : Need) → need_in found around.domain ≡ Some need → allows need.write (around.perm need.page) ≡ false
    → drains_first found thread.buffer capacity ≡ false → FaultsIn (denial_in found) pc thread (carried_out found around pc thread)
found-faults Outside around pc capacity thread need is off ready = let never : ⊥ = cc in absurd never
found-faults (Unknown word) around pc capacity thread need is off ready = let never : ⊥ = cc in absurd never
found-faults (Asks asked) around pc capacity thread need is off ready =
    by (denial_in (Asks asked)) (asked-faults asked around pc thread need is off) (or_parts (must_wait asked thread.buffer) _ ready).0
  where
    by : (denial : Option Denial) → Faults denial pc thread (acted asked around pc thread) → must_wait asked thread.buffer ≡ false
        → FaultsIn denial pc thread (if must_wait asked thread.buffer then None else Some (acted asked around pc thread))
    by None faults waits = absurd faults
    by (Some denial) faults waits = ap (λ b. if b then None else Some (acted asked around pc thread)) waits ∙ ap (λ deed. Some deed) faults

-- so it is where the instruction needs just what the permissions do not allow
pub just-faults : (found : Found) (around : Around) (pc capacity : ℕ) (thread : Thread) (asked : Need) → allows asked.write (around.perm asked.page) ≡ false → needs_just asked (need_in found around.domain) ≡ true
    → drains_first found thread.buffer capacity ≡ false → FaultsIn (denial_in found) pc thread (carried_out found around pc thread)
just-faults found around pc capacity thread asked off just ready = by (need_in found around.domain) refl just where
  by : (need : Option Need) → need_in found around.domain ≡ need → needs_just asked need ≡ true → FaultsIn (denial_in found) pc thread (carried_out found around pc thread)
  by None is just = let never : ⊥ = cc in absurd never
  by (Some need) is just =
      let same = just-page asked (Some need) need refl just in
      found-faults found around pc capacity thread need is
      (ap (λ b. allows b (around.perm need.page)) (sym same.1) ∙ ap (λ p. allows asked.write (around.perm p)) (sym same.0) ∙ off) ready

-- ---- the hart that is refused

-- a machine in a state that the rack stands for ends the hart's thread by the same fault
pub exec-faults : (images : List Image) (setup : Setup) (old : RackView) (flat : PageView → PageImageView) (m : State) → GoesWith images setup old flat m → (h : ℕ) (hart : HartView) (at : IsHartAt old h hart)
    → (image : Image) (pc : ℕ) → slice_get images at.plan.image ≡ Some image → hart.end ≡ Running pc → (deed : Deed)
    → carried_out (found image hart.regs pc) (around_in m h at.plan.domain) pc (machine_thread flat hart) ≡ Some deed → after_exec setup m h ≡ Some (done_by h at.plan.domain m deed)
exec-faults images setup old flat m goes h hart at image pc code runs deed does =
    ap (option_and_then (λ plan. option_and_then (λ image. option_and_then (λ thread.
    option_map (done_by h plan.domain m) (executed image (around_in m h plan.domain) thread))
    (slice_get m.threads h)) (slice_get setup.images plan.image))) (ap (λ plan. slice_get plan.threads h) goes.plan ∙ at.thread)
    ∙ ap (option_and_then (λ image. option_and_then (λ thread.
    option_map (done_by h at.plan.domain m) (executed image (around_in m h at.plan.domain) thread)) (slice_get m.threads h))) (ap (λ all. slice_get all at.plan.image) goes.code ∙ code)
    ∙ ap (option_and_then (λ thread. option_map (done_by h at.plan.domain m) (executed image (around_in m h at.plan.domain) thread))) (goes.stands.threads h hart at)
    ∙ ap (λ end. option_map (done_by h at.plan.domain m) (executed_at end image (around_in m h at.plan.domain) (machine_thread flat hart))) runs
    ∙ ap (option_map (done_by h at.plan.domain m)) does

-- a hart that ends by a fault which its thread ends by
faults-run : (images : List Image) (setup : Setup) (old : RackView) (flat : PageView → PageImageView) (m : State) → GoesWith images setup old flat m → (h : ℕ) (hart : HartView) (at : IsHartAt old h hart)
    → (denial : Denial) (pc : ℕ) → after_exec setup m h ≡ Some (done_by h at.plan.domain m (Alone (faulted denial.kind denial.address pc (machine_thread flat hart))))
    → Runs images setup old flat m at.plan.blade (noting (note.Exec h) (with_hart h (faulting denial.kind denial.address pc hart) at.blade))
faults-run images setup old flat m goes h hart at denial pc does new newer became counted newest =
    let now = faulting denial.kind denial.address pc hart in
    let blade = with_hart h now at.blade in
    let one = one-changed h hart now old new at blade became.plan became.blades refl in
    let same : newer ≡ flat = newest-same at.blade.cache.entries at.blade.cache.entries flat newer (blade-held old flat goes.frames at.plan.blade at.blade at.there) (λ page. refl) newest in
    record {
      next = done_by h at.plan.domain m (Alone (machine_thread flat now));
      run = ap (advanced 0 m) does;
      stands = subst (λ f. RackStandsFor new f (done_by h at.plan.domain m (Alone (machine_thread flat now)))) (sym same)
          (stands-alone h at.plan.domain hart now old new flat m
          (record { one = one; counts = refl; keeps = λ r k. goes.stands.kept h hart r at k; perms = became.perms }) goes.stands);
      pending = one-of (λ x. ArePending x.queue.stores) h hart now old new one goes.pending (goes.pending h hart at);
      one = plan-one at.plan.blade blade old new became (goes.one.blades at.plan.blade at.blade at.there) goes.one;
    }

-- an instruction that needs just what was denied
refuses-run : (images : List Image) (setup : Setup) (old : RackView) (flat : PageView → PageImageView) (m : State) → GoesWith images setup old flat m → (h : ℕ) (hart : HartView) (at : IsHartAt old h hart)
    → (asked : Need) → allows asked.write (permission_at old.switch.protect asked.page) ≡ false → (image : Image) (pc : ℕ) → slice_get images at.plan.image ≡ Some image → hart.end ≡ Running pc
    → needs_just asked (need_in (found image hart.regs pc) at.plan.domain) ≡ true → drains_first (found image hart.regs pc) hart.queue.stores hart.queue.capacity ≡ false
    → Runs images setup old flat m at.plan.blade (refused_by (denial_in (found image hart.regs pc)) h pc at.blade hart)
refuses-run images setup old flat m goes h hart at asked off image pc code runs just ready =
    refused (denial_in (found image hart.regs pc))
    (just-faults (found image hart.regs pc) (around_in m h at.plan.domain) pc hart.queue.capacity (machine_thread flat hart) asked (ap (λ f. allows asked.write (f asked.page)) goes.stands.perms ∙ off) just ready)
  where
    refused : (denial : Option Denial) → FaultsIn denial pc (machine_thread flat hart) (carried_out (found image hart.regs pc) (around_in m h at.plan.domain) pc (machine_thread flat hart))
        → Runs images setup old flat m at.plan.blade (refused_by denial h pc at.blade hart)
    refused None faults = absurd faults
    refused (Some denial) faults = faults-run images setup old flat m goes h hart at denial pc
        (exec-faults images setup old flat m goes h hart at image pc code runs (Alone (faulted denial.kind denial.address pc (machine_thread flat hart))) faults)

-- ---- what waited for it

-- What waited for a page goes on where the permissions deny what was asked for: it leads the machine on.
denies-run : (images : List Image) (setup : Setup) (old : RackView) (flat : PageView → PageImageView) (m : State) → GoesWith images setup old flat m → (h : ℕ) (hart : HartView) (at : IsHartAt old h hart)
    → (asked : Need) → allows asked.write (permission_at old.switch.protect asked.page) ≡ false → (waits : Waits)
    → Runs images setup old flat m at.plan.blade (resumed_by waits Denied asked images h at.plan at.blade hart)
denies-run images setup old flat m goes h hart at asked off Step =
    resumes-as (Runs images setup old flat m at.plan.blade) Denied asked images h at.plan at.blade hart (idles images setup old flat m goes h hart at)
    (λ image pc code runs just ready. refuses-run images setup old flat m goes h hart at asked off image pc code runs just ready)
denies-run images setup old flat m goes h hart at asked off Drain = draining-runs images setup old flat m goes h hart at hart.queue.stores refl

-- ---- a page that is denied

pub deny-runs : (images : List Image) (setup : Setup) (old : RackView) (flat : PageView → PageImageView) (m : State) → GoesWith images setup old flat m → AreHartsPlaced old
    → (c : ℕ) (blade : BladeView) → slice_get old.blades c ≡ Some blade → (page : PageView) (rest : List Msg) → IsCoherent (handing c (Deny page ∷ rest) (seen old flat))
    → Runs images setup old flat m c (after_message images (Deny page) blade)
deny-runs images setup old flat m goes placed c blade there page rest coherent =
    let d = was_denied old flat c blade there (goes.sound c blade there) page rest coherent in
    answers-run Denied images setup old flat m goes placed c blade there blade.cache.entries page d.asked d.out (goes.sound c blade there).cache d.frames
    (λ mid perms frames on hart at is. denies-run images setup mid flat m on d.asked.hart hart at (need_asked d.asked)
    (ap (λ f. allows d.asked.write (f d.asked.page)) perms ∙ d.off) d.asked.waits)
