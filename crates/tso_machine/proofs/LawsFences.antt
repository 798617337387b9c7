-- A locked operation and an ordering fence: all that the thread executed is in memory.
use Rattle.std.proofs.Common.{◌≡◌, ℕ, ◌∙◌, ap, sym, refl, subst, Bool, true, false, cond, ◌&&◌, IsTrue, List, [], ◌∷◌, ◌++◌, Some, None, append-nil}
use Rattle.std.specs.List.{slice_get}
use Rattle.std.specs.Option.{option_map}
use Rattle.std.proofs.lemmas.Bool.{false≢true}
use Rattle.std.proofs.lemmas.Option.{same_Some, none-some, option_and_then_some, slice_get_within}
use Rattle.hart_core.specs.declared.outcome.Act.{Act}
use Rattle.hart_core.specs.declared.outcome.Act.TheVariants as act
use Rattle.mind_base.specs.declared.ends.End.{End}
use Rattle.mind_base.specs.declared.ends.End.TheVariants.{Running, Exit, Fault}
use Rattle.mind_base.specs.declared.images.Image.{Image}
use Rattle.hart_effect.specs.Thread.{Thread}
use Rattle.tso_machine.specs.State.{Setup, State}
use Rattle.hart_effect.specs.Access.{Around}
use Rattle.hart_effect.specs.Deed.{Deed, acted, must_wait, wants_empty, holds_stores, carried_out, executed_at, executed}
use Rattle.tso_machine.specs.Step.{around_in, done_by, after}
use Rattle.tso_machine.specs.Laws.{RunsTo, AllInMemory, FencedIsEmpty}
use Rattle.tso_machine.specs.Orders.{upon, comes_upon, memory_order, effects_of}
use Rattle.hart_effect.specs.declared.finds.Found.{Found}
use Rattle.hart_effect.specs.declared.finds.Found.TheVariants.{Asks}
use Rattle.tso_machine.specs.declared.labels.Label.{Label}
use Rattle.tso_machine.specs.declared.labels.Label.TheVariants as label
use Rattle.tso_machine.proofs.LawsDeeds.{thread_of, locked-buffer, nothing-waits, mapped-some}
use Rattle.tso_machine.proofs.LawsCommands.{buffer_at}
use Rattle.tso_machine.proofs.LawsRuns.{step-after}
use Rattle.tso_machine.proofs.LawsSteps.{done-own}
use Rattle.tso_machine.proofs.LawsOrder.{run-keeps}

-- what wants an empty buffer leaves the buffer as it is
acted-buffer : (asked : Act) (around : Around) (pc : ℕ) (thread : Thread) → IsTrue (wants_empty asked)
    → (thread_of (acted asked around pc thread)).buffer ≡ thread.buffer
acted-buffer (act.Next rd value next) around pc thread wants = refl
acted-buffer (act.Load kind rd address) around pc thread wants = absurd (false≢true wants)
acted-buffer (act.Store size address value) around pc thread wants = absurd (false≢true wants)
acted-buffer (act.Locked kind rd address operand) around pc thread wants = locked-buffer kind rd address operand around pc thread
acted-buffer (act.Fence drains) around pc thread wants = refl
acted-buffer act.Call around pc thread wants = absurd (false≢true wants)
acted-buffer (act.Jumped target) around pc thread wants = refl
acted-buffer act.Broke around pc thread wants = refl

-- the thread's buffer is empty before such a deed and after it
EmptyAround : Thread → Deed → Type 0
EmptyAround thread deed = (thread.buffer ≡ []) × ((thread_of deed).buffer ≡ [])

asked-empty : (asked : Act) (around : Around) (pc : ℕ) (thread : Thread) (deed : Deed) → IsTrue (wants_empty asked)
    → carried_out (Asks asked) around pc thread ≡ Some deed → EmptyAround thread deed
unfolding EmptyAround
asked-empty asked around pc thread deed wants e = by_wait (must_wait asked thread.buffer) refl e where
  by_wait : (b : Bool) → must_wait asked thread.buffer ≡ b → cond b None (Some (acted asked around pc thread)) ≡ Some deed
      → (thread.buffer ≡ []) × ((thread_of deed).buffer ≡ [])
  by_wait true is e = absurd (none-some deed e)
  by_wait false is e =
      let empty = nothing-waits thread.buffer (ap (λ b. b && holds_stores thread.buffer) (sym wants) ∙ is) in
      (empty, ap (λ d. (thread_of d).buffer) (sym (same_Some _ _ e)) ∙ acted-buffer asked around pc thread wants ∙ empty)

exec-empty : (end : End) (image : Image) (around : Around) (thread : Thread) (deed : Deed) (asked : Act) → executed_at end image around thread ≡ Some deed
    → upon end image thread ≡ Some (Asks asked) → IsTrue (wants_empty asked) → EmptyAround thread deed
exec-empty (Running pc) image around thread deed asked e comes wants =
    let P : Found → Type 0 = λ f. carried_out f around pc thread ≡ Some deed in
    asked-empty asked around pc thread deed wants (subst P (same_Some _ _ comes) e)
exec-empty (Exit value) image around thread deed asked e comes wants = absurd (none-some deed e)
exec-empty (Fault kind value pc) image around thread deed asked e comes wants = absurd (none-some deed e)

-- the same of the states around the label
label-empty : (u : Setup) (s m : State) (hart : ℕ) (asked : Act) → after u s (label.Exec hart) ≡ Some m
    → comes_upon u s hart ≡ Some (Asks asked) → IsTrue (wants_empty asked) → (buffer_at s.threads hart ≡ Some []) × (buffer_at m.threads hart ≡ Some [])
unfolding EmptyAround
label-empty u s m hart asked e comes wants =
    option_and_then_some _ (slice_get u.plan.threads hart) m e (λ plan planned g.
    option_and_then_some _ (slice_get u.images plan.image) m g (λ image found i.
    option_and_then_some _ (slice_get s.threads hart) m i (λ thread there k.
    let around = around_in s hart plan.domain in
    let d = mapped-some (done_by hart plan.domain s) (executed image around thread) m k in
    let next : comes_upon u s hart ≡ upon thread.end image thread = rw (planned, found, there) refl in
    let empty = exec-empty thread.end image around thread d.0 asked d.1 (sym next ∙ comes) wants in (
      ap (option_map (λ t. t.buffer)) there ∙ ap Some empty.0,
      ap (λ x. buffer_at x.threads hart) (sym d.2) ∙ done-own hart plan.domain s d.0 (slice_get_within s.threads hart thread there) ∙ ap Some empty.1,
    ))))

-- where the thread's buffer is empty at the end of a run, all that it executed is in memory
all-in-memory : (u : Setup) (s t : State) (ls : List Label) (hart : ℕ) → RunsTo u s ls t → buffer_at t.threads hart ≡ Some [] → AllInMemory u s t ls hart
all-in-memory u s t ls hart runs empty = record {
  buffer = λ last gets. same_Some _ _ (sym (ap (option_map (λ t. t.buffer)) gets) ∙ empty);
  memory = λ first has. run-keeps u s t ls runs hart first.buffer [] (ap (option_map (λ t. t.buffer)) has) empty
      ∙ append-nil (effects_of hart (memory_order u s ls));
}

pub fenced_is_empty : (setup : Setup) (start : State) (labels : List Label) → FencedIsEmpty setup start labels
fenced_is_empty setup start labels hart before next step asked comes wants =
    let empty = label-empty setup before next hart asked (step-after setup start labels before (label.Exec hart) next step) comes wants in (
      all-in-memory setup start before step.front hart step.reached empty.0,
      all-in-memory setup start next (step.front ++ label.Exec hart ∷ []) hart step.taken empty.1,
    )
