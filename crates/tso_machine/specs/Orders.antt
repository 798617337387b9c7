-- The stores of a run in program order, as the threads executed them, and all that took effect in memory, in
-- memory order: stores, and accepted maps, which make their spans zero and are of no thread.
use Rattle.std.specs.Prelude.{ℕ, ◌==◌, List, [], ◌∷◌, slice_get, filter_map, Option, Some, None, is_some, if◌then◌else◌, option_and_then, option_map}
use Rattle.std.specs.List.{cons_option}
use Rattle.hart_core.specs.declared.outcome.Act.{Act}
use Rattle.hart_core.specs.declared.outcome.Act.TheVariants as act
use Rattle.mind_base.specs.Pending.{PendingView}
use Rattle.mind_base.specs.Span.{SpanView}
use Rattle.mind_base.specs.declared.commands.Command.{Command}
use Rattle.mind_base.specs.declared.commands.Command.TheVariants.{Map, Unmap, Protect, Migrate}
use Rattle.mind_base.specs.declared.ends.End.{End}
use Rattle.mind_base.specs.declared.ends.End.TheVariants.{Running, Exit, Fault}
use Rattle.mind_base.specs.declared.ends.FaultKind.{FaultKind}
use Rattle.mind_base.specs.declared.images.Image.{Image}
use Rattle.hart_effect.specs.Thread.{Thread}
use Rattle.tso_machine.specs.State.{Setup, Write, Zeros, Taken, State}
use Rattle.hart_effect.specs.Access.{Around, write_denied}
use Rattle.tso_machine.specs.Commands.{is_fine, outcome_in_state, after_command}
use Rattle.hart_effect.specs.Deed.{Deed, Alone, Storing, locked_done, found, executed}
use Rattle.tso_machine.specs.Step.{around_in, bytes_of, after}
use Rattle.hart_effect.specs.declared.finds.Found.{Found}
use Rattle.hart_effect.specs.declared.finds.Found.TheVariants.{Outside, Unknown, Asks}
use Rattle.tso_machine.specs.declared.labels.Label.{Label}
use Rattle.tso_machine.specs.declared.labels.Label.TheVariants as label

-- a store of thread number hart, of a domain
pub record StoreEvent : Type 0 where
  pub hart : ℕ
  pub domain : ℕ
  pub store : PendingView

abbrev pub store_event : ℕ → ℕ → PendingView → StoreEvent
store_event hart domain store = record { hart = hart; domain = domain; store = store }

-- what takes effect in memory: a store of a thread, or an accepted map, which makes its span zero
pub data Effect : Type 0 where
  Stored : (event : StoreEvent) → Effect
  Zeroed : (span : SpanView) → Effect

abbrev pub effect_of : ℕ → ℕ → PendingView → Effect
effect_of hart domain store = Stored (store_event hart domain store)

-- ---- what a thread comes upon

-- what is told of thread number hart of a state, if there is one, by its image, what it finds around it, and itself
abbrev pub of_thread : {A : Type 0} → (Image → Around → Thread → Option A) → Setup → State → ℕ → Option A
of_thread told setup state hart =
    option_and_then (λ plan. option_and_then (λ image. option_and_then (told image (around_in state hart plan.domain))
    (slice_get state.threads hart)) (slice_get setup.images plan.image)) (slice_get setup.plan.threads hart)

-- what a thread comes upon next, if it runs
abbrev pub upon : End → Image → Thread → Option Found
upon (Running pc) image thread = Some (found image thread.regs pc)
upon (Exit value) image thread = None
upon (Fault kind value pc) image thread = None

abbrev pub comes_upon : Setup → State → ℕ → Option Found
comes_upon setup state hart = of_thread (λ image around thread. upon thread.end image thread) setup state hart

-- ---- the store of a label

-- the store that takes effect in a deed
abbrev pub in_effect : Deed → Option PendingView
in_effect (Alone thread) = None
in_effect (Storing thread store) = Some store

abbrev pub unless_refused : Option FaultKind → PendingView → Option PendingView
unless_refused None store = Some store
unless_refused (Some kind) store = None

-- the store that an instruction makes: that of a store instruction which is not denied, or of a locked operation
abbrev pub store_by : Act → Around → ℕ → Thread → Option PendingView
store_by (act.Next rd value next) around pc thread = None
store_by (act.Load kind rd address) around pc thread = None
store_by (act.Store size address value) around pc thread =
    unless_refused (write_denied around.perm around.domain address size) (record { address = address; size = size; value = value })
store_by (act.Locked kind rd address operand) around pc thread = in_effect (locked_done kind rd address operand around pc thread)
store_by (act.Fence drains) around pc thread = None
store_by act.Call around pc thread = None
store_by (act.Jumped target) around pc thread = None
store_by act.Broke around pc thread = None

abbrev pub store_upon : Found → Around → ℕ → Thread → Option PendingView
store_upon Outside around pc thread = None
store_upon (Unknown word) around pc thread = None
store_upon (Asks asked) around pc thread = store_by asked around pc thread

abbrev pub store_at : End → Image → Around → Thread → Option PendingView
store_at (Running pc) image around thread = store_upon (found image thread.regs pc) around pc thread
store_at (Exit value) image around thread = None
store_at (Fault kind value pc) image around thread = None

-- the store that a thread executes by a label, in the state before it: into its buffer, or at once into memory
abbrev pub executes : Setup → State → Label → Option StoreEvent
executes setup state (label.Exec hart) = of_thread (λ image around thread.
    option_map (store_event hart around.domain) (store_at thread.end image around thread)) setup state hart
executes setup state (label.Drain hart) = None
executes setup state (label.Command index) = None

-- ---- what takes effect by a label

-- the span that a command makes zero where it is accepted: that of a map
abbrev pub mapped_span : Command → Option SpanView
mapped_span (Map span perm) = Some span
mapped_span (Unmap span) = None
mapped_span (Protect span perm) = None
mapped_span (Migrate range memory) = None

-- the span that a command makes zero which is taken in this state
abbrev pub zeroed_in_state : Setup → State → Command → Option SpanView
zeroed_in_state setup state command = if is_fine (outcome_in_state setup state command) then mapped_span command else None

-- the span that the command with this number makes zero, where it is taken
abbrev pub zeroes : Setup → State → ℕ → Option SpanView
zeroes setup state index =
    if is_some (after_command setup state index)
    then option_and_then (zeroed_in_state setup state) (slice_get setup.commands index)
    else None

-- What takes effect in memory by a label, in the state before it: the oldest store of a buffer, the store of
-- a locked operation, or an accepted map.
abbrev pub performs : Setup → State → Label → Option Effect
performs setup state (label.Exec hart) = of_thread (λ image around thread.
    option_map (effect_of hart around.domain) (option_and_then in_effect (executed image around thread))) setup state hart
performs setup state (label.Drain hart) = option_and_then (λ plan. option_and_then (λ thread.
    option_map (effect_of hart plan.domain) (slice_get thread.buffer 0)) (slice_get state.threads hart)) (slice_get setup.plan.threads hart)
performs setup state (label.Command index) = option_map Zeroed (zeroes setup state index)

-- ---- the orders

-- what the labels of a run give, each in the state before it, in order
abbrev pub along : {X : Type 0} → (State → Label → Option X) → Setup → Option State → List Label → List X
along give setup state [] = []
along give setup None (label ∷ later) = []
along give setup (Some state) (label ∷ later) = cons_option (give state label) (along give setup (after setup state label) later)

-- the stores that the threads executed, in order
abbrev pub program_order : Setup → State → List Label → List StoreEvent
program_order setup start labels = along (executes setup) setup (Some start) labels

-- what took effect in memory, in order
abbrev pub memory_order : Setup → State → List Label → List Effect
memory_order setup start labels = along (performs setup) setup (Some start) labels

abbrev pub store_if : ℕ → StoreEvent → Option PendingView
store_if hart event = if event.hart == hart then Some event.store else None

-- those of thread number hart among stores, in order
abbrev pub stores_of : ℕ → List StoreEvent → List PendingView
stores_of hart events = filter_map (store_if hart) events

abbrev pub effect_if : ℕ → Effect → Option PendingView
effect_if hart (Stored event) = store_if hart event
effect_if hart (Zeroed span) = None

-- the stores of thread number hart among what took effect, in order
abbrev pub effects_of : ℕ → List Effect → List PendingView
effects_of hart effects = filter_map (effect_if hart) effects

abbrev pub span_if : Effect → Option SpanView
span_if (Stored event) = None
span_if (Zeroed span) = Some span

-- the spans that were made zero among what took effect, in order
abbrev pub spans_of : List Effect → List SpanView
spans_of effects = filter_map span_if effects

abbrev pub accepted_span : List Command → Taken → Option SpanView
accepted_span commands entry = if is_fine entry.outcome then option_and_then mapped_span (slice_get commands entry.index) else None

-- the spans of the accepted maps among commands that were taken, in order
abbrev pub accepted_spans : List Command → List Taken → List SpanView
accepted_spans commands taken = filter_map (accepted_span commands) taken

-- the writes to memory of what takes effect: the bytes of a store, or zeros over a span
abbrev pub writes_of : Effect → List Write
writes_of (Stored event) = bytes_of event.domain event.store
writes_of (Zeroed span) = Zeros span ∷ []
