-- Provenance: where the bytes that threads see come from.
use Rattle.std.proofs.Common.{◌≡◌, ℕ, ◌∙◌, ap, sym, subst, arith, List, [], ◌∷◌, ◌++◌, get_or, Option, Some, None, inl, inr, ◌⊎◌}
use Rattle.std.specs.List.{slice_get, Contains, flat_map}
use Rattle.std.proofs.lemmas.List.Elements.{filter_map-append, Contains-append_cases, Contains-append_left, Contains-push}
use Rattle.std.proofs.lemmas.Option.{same_Some, none-some, slice_get_within, slice_get-get_or}
use Rattle.std.specs.Option.{option_map, option_to_list}
use Rattle.mind_base.specs.Pending.{PendingView}
use Rattle.mind_base.specs.Span.{SpanView}
use Rattle.hart_effect.specs.Thread.{Thread}
use Rattle.tso_machine.specs.State.{Setup, State, Write, Zeros}
use Rattle.tso_machine.specs.Laws.{RunsTo, IsStep, GivenBy, ExecutedBy, ZeroedBy, WroteBy, ByStore, ByMap, BytesComeFromStores}
use Rattle.tso_machine.specs.Orders.{in_effect, StoreEvent, Effect, Stored, Zeroed, effect_of, zeroes, performs, memory_order, effect_if, effects_of, writes_of}
use Rattle.tso_machine.specs.declared.labels.Label.{Label}
use Rattle.tso_machine.specs.declared.labels.Label.TheVariants as label
use Rattle.tso_machine.proofs.LawsCommands.{Commanded, command-accepted}
use Rattle.tso_machine.proofs.LawsDeeds.{thread_of, Stepped, mapped-some}
use Rattle.tso_machine.proofs.LawsExecuted.{stores-from, buffers-from}
use Rattle.tso_machine.proofs.LawsLists.{contains-nil, contains-cons, contains-flat_map}
use Rattle.tso_machine.proofs.LawsRuns.{run-length, step-after, given-along}
use Rattle.tso_machine.proofs.LawsSteps.{Cause, ByThread, ByCommand, cause_of, own-after, own-effect}
use Rattle.tso_machine.proofs.LawsOrder.{along-step, run-writes}
use Rattle.tso_machine.proofs.LawsSeen.{has-source}

-- a store that takes effect its thread executed by then, or it waited in the thread's buffer at the start
abbrev IsExecuted : Setup → State → List Label → StoreEvent → Type 0
IsExecuted setup start labels event = (first : Thread) × (slice_get start.threads event.hart ≡ Some first)
    × (Contains first.buffer event.store ⊎ ExecutedBy setup start labels event.hart event.store)

-- what a label of a thread performs is a store of that thread
performed-store : {u : Setup} {s m : State} {l : Label} {hart : ℕ} (st : Stepped u s m l hart) (effect : Effect) → performs u s l ≡ Some effect
    → (store : PendingView) × (in_effect st.deed ≡ Some store) × (effect_of hart st.plan.domain store ≡ effect)
performed-store {hart = hart} st effect performed = mapped-some (effect_of hart st.plan.domain) (in_effect st.deed) effect (sym st.performed ∙ performed)

same-event : (a b : StoreEvent) → Stored a ≡ Stored b → a ≡ b
same-event a b e = cc

not-zeroed : (event : StoreEvent) (o : Option SpanView) → option_map Zeroed o ≡ Some (Stored event) → ⊥
not-zeroed event None e = none-some (Stored event) e
not-zeroed event (Some span) e = let same : Zeroed span ≡ Stored event = same_Some _ _ e in cc

thread-performed : (setup : Setup) (start : State) (labels : List Label) (before : State) (l : Label) (next : State) (step : IsStep setup start labels before l next)
    → (hart : ℕ) (st : Stepped setup before next l hart) (event : StoreEvent) → performs setup before l ≡ Some (Stored event)
    → IsExecuted setup start (step.front ++ l ∷ []) event
thread-performed setup start labels before l next step hart st event performed =
    let x = performed-store st (Stored event) performed in
    let same = run-length setup start before step.front step.reached in
    let within = slice_get_within before.threads hart st.thread st.there in
    let first = get_or start.threads hart st.thread in
    let there : slice_get start.threads hart ≡ Some first = slice_get-get_or start.threads hart st.thread (omega (arith, same, within)) in
    let order = along-step (performs setup) setup start before step.front l step.reached in
    let earlier = effects_of hart (memory_order setup start step.front) in
    let ends : effects_of hart (memory_order setup start (step.front ++ l ∷ [])) ≡ earlier ++ x.0 ∷ [] =
    ap (effects_of hart) order
    ∙ filter_map-append (effect_if hart) (memory_order setup start step.front) (option_to_list (performs setup before l))
    ∙ ap (λ o. earlier ++ effects_of hart (option_to_list o)) (st.performed ∙ ap (option_map (effect_of hart st.plan.domain)) x.1)
    ∙ ap (λ ss. earlier ++ ss) (own-effect hart st.plan.domain (Some x.0)) in
    let P : List PendingView → Type 0 = λ ss. Contains ss x.0 in
    let made = subst P (sym ends) (Contains-push earlier x.0) in
    let E : StoreEvent → Type 0 = λ ev. IsExecuted setup start (step.front ++ l ∷ []) ev in
    subst E (same-event _ event x.2) (
      first,
      there,
      stores-from setup start next (step.front ++ l ∷ []) step.taken hart first.buffer (thread_of st.deed).buffer
          (ap (option_map (λ t. t.buffer)) there) (own-after setup before next l hart st) x.0
          (Contains-append_left (effects_of hart (memory_order setup start (step.front ++ l ∷ []))) (thread_of st.deed).buffer x.0 made),
    )

performed-from : (setup : Setup) (start : State) (labels : List Label) (before : State) (l : Label) (next : State) (step : IsStep setup start labels before l next)
    → (event : StoreEvent) → performs setup before l ≡ Some (Stored event) → IsExecuted setup start (step.front ++ l ∷ []) event
performed-from setup start labels before l next step event performed =
    by_cause (cause_of setup before next l (step-after setup start labels before l next step)) where
      by_cause : Cause setup before next l → IsExecuted setup start (step.front ++ l ∷ []) event
      by_cause (ByThread hart st) = thread-performed setup start labels before l next step hart st event performed
      by_cause (ByCommand index is c) = absurd (not-zeroed event (zeroes setup before index) (ap (performs setup before) (sym is) ∙ performed))

same-span : (a b : SpanView) → Zeroed a ≡ Zeroed b → a ≡ b
same-span a b e = cc

-- a label that made a span zero took an accepted map
zeroed-from : (setup : Setup) (start : State) (labels : List Label) (before : State) (l : Label) (next : State) (step : IsStep setup start labels before l next)
    → (span : SpanView) → performs setup before l ≡ Some (Zeroed span) → ZeroedBy setup start labels span
zeroed-from setup start labels before l next step span performed =
    by_cause (cause_of setup before next l (step-after setup start labels before l next step)) where
      by_command : (index : ℕ) → Commanded setup before next index → IsStep setup start labels before (label.Command index) next
          → (s : SpanView) × (zeroes setup before index ≡ Some s) × (Zeroed s ≡ Zeroed span) → ZeroedBy setup start labels span
      by_command index c taken x =
          let same : x.0 ≡ span = same-span x.0 span x.2 in
          let a = command-accepted c span (x.1 ∙ ap Some same) in
          record { before = before; index = index; next = next; step = taken; perm = a.0; maps = a.1; accepted = a.2 }

      by_cause : Cause setup before next l → ZeroedBy setup start labels span
      by_cause (ByThread hart st) = let x = performed-store st (Zeroed span) performed in absurd (let same : Stored _ ≡ Zeroed span = x.2 in cc)
      by_cause (ByCommand index is c) =
          let S : Label → Type 0 = λ x. IsStep setup start labels before x next in
          by_command index c (subst S is step) (mapped-some Zeroed (zeroes setup before index) (Zeroed span) (ap (performs setup before) (sym is) ∙ performed))

-- what took effect put its writes into memory
wrote : (setup : Setup) (start : State) (labels : List Label) (effect : Effect) → GivenBy (performs setup) setup start labels effect
    → (write : Write) → Contains (writes_of effect) write → WroteBy setup start labels write
wrote setup start labels (Stored event) g write has =
    let made = performed-from setup start labels g.before g.label g.next g.step event g.given in
    ByStore (record {
      event = event;
      performed = g;
      written = has;
      first = made.0;
      there = made.1;
      executed = made.2;
    })
wrote setup start labels (Zeroed span) g write has =
    ByMap span (zeroed-from setup start labels g.before g.label g.next g.step span g.given) (by_only (contains-cons (Zeros span) [] write has)) where
      by_only : (Zeros span ≡ write) ⊎ Contains [] write → write ≡ Zeros span
      by_only (inl same) = sym same
      by_only (inr none) = absurd (contains-nil write none)

writes-from : (setup : Setup) (start state : State) (labels : List Label) → RunsTo setup start labels state
    → (write : Write) → Contains state.writes write → Contains start.writes write ⊎ WroteBy setup start labels write
writes-from setup start state labels runs write has =
    let P : List Write → Type 0 = λ ws. Contains ws write in
    by_part (Contains-append_cases start.writes (flat_map writes_of (memory_order setup start labels)) write
    (subst P (run-writes setup start state labels runs) has)) where
      written : (effect : Effect) × Contains (memory_order setup start labels) effect × Contains (writes_of effect) write → WroteBy setup start labels write
      written (effect, made, has) = wrote setup start labels effect (given-along (performs setup) setup start state labels runs effect made) write has

      by_part : Contains start.writes write ⊎ Contains (flat_map writes_of (memory_order setup start labels)) write
          → Contains start.writes write ⊎ WroteBy setup start labels write
      by_part (inl old) = inl old
      by_part (inr new) = inr (written (contains-flat_map writes_of (memory_order setup start labels) write new))

pub bytes_come_from_stores : (setup : Setup) (start : State) (labels : List Label) → BytesComeFromStores setup start labels
bytes_come_from_stores setup start labels front state moment = record {
  bytes = λ hart domain thread is address. has-source state domain thread address;
  buffers = buffers-from setup start state front moment.reached;
  writes = writes-from setup start state front moment.reached;
}
