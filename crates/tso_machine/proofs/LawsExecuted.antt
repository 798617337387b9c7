-- What took effect of a thread, and what waits in its buffer, the thread itself executed.
use Rattle.std.proofs.Common.{◌≡◌, ℕ, ◌∙◌, ap, sym, subst, List, ◌++◌, eqb, true, Some, inl, inr, ◌⊎◌}
use Rattle.std.specs.List.{slice_get, Contains}
use Rattle.std.proofs.lemmas.List.Elements.{Contains-append_cases, Contains-append_right}
use Rattle.std.proofs.lemmas.Bool.{eqb-true}
use Rattle.std.proofs.lemmas.Option.{none-some, cond_some}
use Rattle.std.specs.Option.{option_map}
use Rattle.mind_base.specs.Pending.{PendingView}
use Rattle.hart_effect.specs.Thread.{Thread}
use Rattle.tso_machine.specs.State.{Setup, State}
use Rattle.tso_machine.specs.Laws.{RunsTo, IsStep, GivenBy, ExecutedBy}
use Rattle.tso_machine.specs.Orders.{StoreEvent, store_event, executes, program_order, memory_order, store_if, stores_of, effects_of}
use Rattle.tso_machine.specs.declared.labels.Label.{Label}
use Rattle.tso_machine.specs.declared.labels.Label.TheVariants as label
use Rattle.tso_machine.proofs.LawsCommands.{buffer_at}
use Rattle.tso_machine.proofs.LawsDeeds.{mapped-some, stepped-exec}
use Rattle.tso_machine.proofs.LawsLists.{contains-filter_map}
use Rattle.tso_machine.proofs.LawsRuns.{step-after, given-along}
use Rattle.tso_machine.proofs.LawsOrder.{run-keeps}

-- the label that executed a store of a thread is an execution of that thread
executed-by : (setup : Setup) (start : State) (labels : List Label) (hart : ℕ) (store : PendingView) (event : StoreEvent)
    → eqb event.hart hart ≡ true → event.store ≡ store → GivenBy (executes setup) setup start labels event → ExecutedBy setup start labels hart store
executed-by setup start labels hart store event own is g = by_label g.label g.step g.given where
  by_exec : (exec : ℕ) → IsStep setup start labels g.before (label.Exec exec) g.next → executes setup g.before (label.Exec exec) ≡ Some event → exec ≡ hart
      → ExecutedBy setup start labels hart store
  by_exec exec step given same =
      let S : ℕ → Type 0 = λ h. IsStep setup start labels g.before (label.Exec h) g.next in
      let E : ℕ → Type 0 = λ h. executes setup g.before (label.Exec h) ≡ Some event in
      let made : event ≡ store_event hart event.domain store =
      ap (λ h. store_event h event.domain event.store) (eqb-true event.hart hart own) ∙ ap (store_event hart event.domain) is in
      record { before = g.before; next = g.next; step = subst S same step; domain = event.domain; executed = subst E same given ∙ ap Some made }

  by_label : (l : Label) → IsStep setup start labels g.before l g.next → executes setup g.before l ≡ Some event → ExecutedBy setup start labels hart store
  by_label (label.Exec exec) step given =
      let st = stepped-exec setup g.before g.next exec (step-after setup start labels g.before (label.Exec exec) g.next step) in
      let x = mapped-some (store_event exec st.plan.domain) st.store event (sym st.executed ∙ given) in
      by_exec exec step given (ap (λ ev. ev.hart) x.2 ∙ eqb-true event.hart hart own)
  by_label (label.Drain h) step given = absurd (none-some event given)
  by_label (label.Command index) step given = absurd (none-some event given)

-- what took effect of a thread, and what waits in its buffer, it executed, or it waited there at the start
pub stores-from : (setup : Setup) (start state : State) (labels : List Label) → RunsTo setup start labels state
    → (hart : ℕ) (first last : List PendingView) → buffer_at start.threads hart ≡ Some first → buffer_at state.threads hart ≡ Some last
    → (store : PendingView) → Contains (effects_of hart (memory_order setup start labels) ++ last) store → Contains first store ⊎ ExecutedBy setup start labels hart store
stores-from setup start state labels runs hart first last has gets store made =
    let P : List PendingView → Type 0 = λ ss. Contains ss store in
    by_part (Contains-append_cases first (stores_of hart (program_order setup start labels)) store
    (subst P (sym (run-keeps setup start state labels runs hart first last has gets)) made)) where
      executed : (event : StoreEvent) × Contains (program_order setup start labels) event × (store_if hart event ≡ Some store) → ExecutedBy setup start labels hart store
      executed (event, made, own) =
          let parts = cond_some (eqb event.hart hart) event.store store own in
          executed-by setup start labels hart store event parts.0 parts.1 (given-along (executes setup) setup start state labels runs event made)

      by_part : Contains first store ⊎ Contains (stores_of hart (program_order setup start labels)) store → Contains first store ⊎ ExecutedBy setup start labels hart store
      by_part (inl old) = inl old
      by_part (inr new) = inr (executed (contains-filter_map (store_if hart) (program_order setup start labels) store new))

pub buffers-from : (setup : Setup) (start state : State) (labels : List Label) → RunsTo setup start labels state
    → (hart : ℕ) (first last : Thread) → slice_get start.threads hart ≡ Some first → slice_get state.threads hart ≡ Some last
    → (store : PendingView) → Contains last.buffer store → Contains first.buffer store ⊎ ExecutedBy setup start labels hart store
buffers-from setup start state labels runs hart first last has gets store waits =
    stores-from setup start state labels runs hart first.buffer last.buffer (ap (option_map (λ t. t.buffer)) has) (ap (option_map (λ t. t.buffer)) gets) store
    (Contains-append_right (effects_of hart (memory_order setup start labels)) last.buffer store waits)
