-- Laws of runs, in the words of total store order: what a thread sees, where a byte comes from, the one
-- order in which stores and accepted maps take effect, and what a fence leaves. Each law is said of a list of
-- labels from a state, and speaks of every moment and every step of the run, as far as the labels are enabled.
use Rattle.std.specs.Prelude.{◌≡◌, ℕ, ◌⊎◌, Bool, ◌&&◌, ◌==◌, IsTrue, IsFalse, List, [], ◌∷◌, ◌++◌, All, Contains, slice_get, flat_map, Option, Some}
use Rattle.hart_core.specs.declared.outcome.Act.{Act}
use Rattle.mind_base.specs.Page.{page_of}
use Rattle.mind_base.specs.Pending.{PendingView, covers, byte_at}
use Rattle.mind_base.specs.Span.{SpanView, in_span}
use Rattle.mind_base.specs.declared.commands.Command.TheVariants.{Map}
use Rattle.mind_base.specs.declared.commands.Outcome.TheVariants.{Fine}
use Rattle.mind_base.specs.declared.commands.Perm.{Perm}
use Rattle.mind_base.specs.declared.plans.ThreadPlan.{ThreadPlan}
use Rattle.hart_effect.specs.Thread.{Thread}
use Rattle.tso_machine.specs.State.{Setup, Write, Byte, Zeros, Taken, State}
use Rattle.tso_machine.specs.Memory.{byte_of}
use Rattle.hart_effect.specs.Access.{seen_byte}
use Rattle.hart_effect.specs.Deed.{wants_empty}
use Rattle.tso_machine.specs.Step.{bytes_of}
use Rattle.tso_machine.specs.Replay.{Whole, replay}
use Rattle.tso_machine.specs.Orders.{StoreEvent, store_event, Stored, comes_upon, executes, performs, program_order, memory_order, stores_of, effects_of, spans_of, accepted_spans, writes_of}
use Rattle.hart_effect.specs.declared.finds.Found.TheVariants.{Asks}
use Rattle.tso_machine.specs.declared.labels.Label.{Label}
use Rattle.tso_machine.specs.declared.labels.Label.TheVariants as label

-- ---- runs

-- the labels lead, whole, from one state to another
abbrev pub RunsTo : Setup → State → List Label → State → Type 0
RunsTo setup start labels state = replay setup start labels ≡ Whole state

-- a moment of a run: the state after a front of its labels
pub record IsMoment (setup : Setup) (start : State) (labels front : List Label) (state : State) : Type 0 where
  pub rest : List Label
  pub split : labels ≡ front ++ rest
  pub reached : RunsTo setup start front state

-- a step of a run: a label, with the states before and after it
pub record IsStep (setup : Setup) (start : State) (labels : List Label) (before : State) (label : Label) (next : State) : Type 0 where
  pub front : List Label
  pub rest : List Label
  pub split : labels ≡ front ++ label ∷ rest
  pub reached : RunsTo setup start front before
  pub taken : RunsTo setup start (front ++ label ∷ []) next

-- thread number hart of a state, and its domain
pub record IsThread (setup : Setup) (state : State) (hart domain : ℕ) (thread : Thread) : Type 0 where
  pub plan : ThreadPlan
  pub planned : slice_get setup.plan.threads hart ≡ Some plan
  pub in_domain : plan.domain ≡ domain
  pub there : slice_get state.threads hart ≡ Some thread

-- the byte that a thread of a domain sees at an address in a state
abbrev pub sees : State → ℕ → Thread → ℕ → ℕ
sees state domain thread address = seen_byte (byte_of state.writes) domain thread.buffer address

-- ---- own store seen

-- the last of a list that passes a test: none behind it does
pub record IsLastWith {X : Type 0} (test : X → Bool) (xs : List X) (x : X) : Type 0 where
  pub before : List X
  pub behind : List X
  pub split : xs ≡ before ++ x ∷ behind
  pub passes : IsTrue (test x)
  pub none_later : All (λ y. IsFalse (test y)) behind

-- the newest store of a buffer that covers an address
abbrev pub IsNewestStore : List PendingView → ℕ → PendingView → Type 0
IsNewestStore buffer address store = IsLastWith (λ s. covers s address) buffer store

-- no store of a buffer covers an address
abbrev pub NoneCovers : List PendingView → ℕ → Type 0
NoneCovers buffer address = All (λ s. IsFalse (covers s address)) buffer

-- while a store of its own waits, a thread sees the newest that covers the address, whatever others do
abbrev pub SeesNewest : Setup → State → Type 0
SeesNewest setup state = (hart domain : ℕ) (thread : Thread) → IsThread setup state hart domain thread
    → (address : ℕ) (store : PendingView) → IsNewestStore thread.buffer address store → sees state domain thread address ≡ byte_at store address

-- a thread sees memory as it were if the stores of its own buffer, and no others, had taken effect
abbrev pub SeesAsIfDrained : Setup → State → Type 0
SeesAsIfDrained setup state = (hart domain : ℕ) (thread : Thread) → IsThread setup state hart domain thread
    → (address : ℕ) → sees state domain thread address ≡ byte_of (state.writes ++ flat_map (bytes_of domain) thread.buffer) domain address

-- right after a thread executed a store, it sees its bytes
abbrev pub SeesAtOnce : Setup → State → List Label → Type 0
SeesAtOnce setup start labels = (hart : ℕ) (before next : State) → IsStep setup start labels before (label.Exec hart) next
    → (event : StoreEvent) → executes setup before (label.Exec hart) ≡ Some event
    → (domain : ℕ) (thread : Thread) → IsThread setup next hart domain thread
    → (address : ℕ) → IsTrue (covers event.store address) → sees next domain thread address ≡ byte_at event.store address

-- A thread always sees its own newest store: at once, and as long as the store waits in its buffer.
pub record SeesOwnStore (setup : Setup) (start : State) (labels : List Label) : Type 0 where
  pub at_once : SeesAtOnce setup start labels
  pub while_it_waits : (front : List Label) (state : State) → IsMoment setup start labels front state → SeesNewest setup state
  pub as_if_drained : (front : List Label) (state : State) → IsMoment setup start labels front state → SeesAsIfDrained setup state

-- ---- provenance

-- some label of the run gave this, in the state before it
pub record GivenBy {X : Type 0} (give : State → Label → Option X) (setup : Setup) (start : State) (labels : List Label) (x : X) : Type 0 where
  pub before : State
  pub label : Label
  pub next : State
  pub step : IsStep setup start labels before label next
  pub given : give before label ≡ Some x

-- some label of the run executed the store, in thread number hart
pub record ExecutedBy (setup : Setup) (start : State) (labels : List Label) (hart : ℕ) (store : PendingView) : Type 0 where
  pub before : State
  pub next : State
  pub step : IsStep setup start labels before (label.Exec hart) next
  pub domain : ℕ
  pub executed : executes setup before (label.Exec hart) ≡ Some (store_event hart domain store)

-- some label of the run put the write there by a store: it is of a store that took effect by the label, and
-- that its thread executed by then, or that waited in the thread's buffer at the start
pub record StoredBy (setup : Setup) (start : State) (labels : List Label) (write : Write) : Type 0 where
  pub event : StoreEvent
  pub performed : GivenBy (performs setup) setup start labels (Stored event)
  pub written : Contains (bytes_of event.domain event.store) write
  pub first : Thread
  pub there : slice_get start.threads event.hart ≡ Some first
  pub executed : Contains first.buffer event.store ⊎ ExecutedBy setup start (performed.step.front ++ performed.label ∷ []) event.hart event.store

-- some label of the run took a command that maps the span, and the command was accepted
pub record ZeroedBy (setup : Setup) (start : State) (labels : List Label) (span : SpanView) : Type 0 where
  pub before : State
  pub index : ℕ
  pub next : State
  pub step : IsStep setup start labels before (label.Command index) next
  pub perm : Perm
  pub maps : slice_get setup.commands index ≡ Some (Map span perm)
  pub accepted : next.taken ≡ before.taken ++ record { index = index; outcome = Fine } ∷ []

-- the run put the write there: by a store that took effect, or as the zeros of an accepted map
pub data WroteBy (setup : Setup) (start : State) (labels : List Label) (write : Write) : Type 0 where
  ByStore : (stored : StoredBy setup start labels write) → WroteBy setup start labels write
  ByMap : (span : SpanView) (zeroed : ZeroedBy setup start labels span) → write ≡ Zeros span → WroteBy setup start labels write

abbrev pub write_covers : Write → ℕ → ℕ → Bool
write_covers (Byte d a value) domain address = d == domain && a == address
write_covers (Zeros span) domain address = in_span span (page_of domain address)

abbrev pub byte_written : Write → ℕ
byte_written (Byte d a value) = value
byte_written (Zeros span) = 0

-- the last write that covers an address of a domain
abbrev pub IsLastWrite : List Write → ℕ → ℕ → Write → Type 0
IsLastWrite writes domain address write = IsLastWith (λ w. write_covers w domain address) writes write

-- A byte that a thread sees is that of the newest store of its own that waits and covers the address; where
-- none does, that of the last write to memory that covers it; and where none does, the first zero.
abbrev pub HasSource : State → ℕ → Thread → ℕ → ℕ → Type 0
HasSource state domain thread address byte =
    ((store : PendingView) × IsNewestStore thread.buffer address store × (byte ≡ byte_at store address))
    ⊎ ((NoneCovers thread.buffer address × (write : Write) × IsLastWrite state.writes domain address write × (byte ≡ byte_written write))
    ⊎ (NoneCovers thread.buffer address × All (λ w. IsFalse (write_covers w domain address)) state.writes × (byte ≡ 0)))

-- The bytes that threads see at the end of the labels have their sources, and what is behind each source:
-- the thread itself executed what waits in its buffer, and a store that took effect or an accepted map put each
-- write into memory, or it was there at the start.
pub record HasProvenance (setup : Setup) (start state : State) (labels : List Label) : Type 0 where
  pub bytes : (hart domain : ℕ) (thread : Thread) → IsThread setup state hart domain thread
      → (address : ℕ) → HasSource state domain thread address (sees state domain thread address)
  pub buffers : (hart : ℕ) (first last : Thread) → slice_get start.threads hart ≡ Some first → slice_get state.threads hart ≡ Some last
      → (store : PendingView) → Contains last.buffer store → Contains first.buffer store ⊎ ExecutedBy setup start labels hart store
  pub writes : (write : Write) → Contains state.writes write → Contains start.writes write ⊎ WroteBy setup start labels write

-- No thread ever sees a byte other than the first zero that no store, locked operation or zeroing wrote.
abbrev pub BytesComeFromStores : Setup → State → List Label → Type 0
BytesComeFromStores setup start labels = (front : List Label) (state : State) → IsMoment setup start labels front state → HasProvenance setup start state front

-- ---- one order

-- the stores of a thread take effect in the order in which it executed them, locked operations among
-- them; those of which the effect is still to come are its buffer
abbrev pub KeepsProgramOrder : Setup → State → State → List Label → Type 0
KeepsProgramOrder setup start state labels = (hart : ℕ) (first last : Thread) → slice_get start.threads hart ≡ Some first → slice_get state.threads hart ≡ Some last
    → first.buffer ++ stores_of hart (program_order setup start labels) ≡ effects_of hart (memory_order setup start labels) ++ last.buffer

-- spans become zero by the accepted maps alone, in the order in which these were taken
pub record KeepsCommandOrder (setup : Setup) (start state : State) (labels : List Label) : Type 0 where
  pub later : List Taken
  pub taken : state.taken ≡ start.taken ++ later
  pub zeroed : spans_of (memory_order setup start labels) ≡ accepted_spans setup.commands later

-- what memory was written at an earlier moment stays written, and later writes come behind it
abbrev pub OnlyGrows : Setup → State → State → List Label → Type 0
OnlyGrows setup start state labels = (front : List Label) (earlier : State) → IsMoment setup start labels front earlier
    → (later : List Write) × (state.writes ≡ earlier.writes ++ later)

-- two threads of a domain see the same byte wherever no store of theirs waits
abbrev pub Agree : Setup → State → Type 0
Agree setup state = (one other domain : ℕ) (a b : Thread) → IsThread setup state one domain a → IsThread setup state other domain b
    → (address : ℕ) → NoneCovers a.buffer address → NoneCovers b.buffer address
    → sees state domain a address ≡ sees state domain b address

-- at the end of the labels memory is what stores and accepted maps wrote in memory order, which keeps each
-- thread's program order and the order of the commands
pub record IsInOrder (setup : Setup) (start state : State) (labels : List Label) : Type 0 where
  pub writes : state.writes ≡ start.writes ++ flat_map writes_of (memory_order setup start labels)
  pub program : KeepsProgramOrder setup start state labels
  pub commands : KeepsCommandOrder setup start state labels
  pub grows : OnlyGrows setup start state labels
  pub agree : Agree setup state

-- All threads agree on one order of the stores and zeroings of memory, which keeps the order of each thread
-- and that of the commands.
abbrev pub OneOrder : Setup → State → List Label → Type 0
OneOrder setup start labels = (front : List Label) (state : State) → IsMoment setup start labels front state → IsInOrder setup start state front

-- ---- fenced

-- the thread's buffer is empty: each store that it executed has taken effect in memory, in order
pub record AllInMemory (setup : Setup) (start state : State) (labels : List Label) (hart : ℕ) : Type 0 where
  pub buffer : (last : Thread) → slice_get state.threads hart ≡ Some last → last.buffer ≡ []
  pub memory : (first : Thread) → slice_get start.threads hart ≡ Some first
      → first.buffer ++ stores_of hart (program_order setup start labels) ≡ effects_of hart (memory_order setup start labels)

-- Before and after a locked operation or an ordering fence, all that its thread executed is in memory and
-- its buffer is empty.
abbrev pub FencedIsEmpty : Setup → State → List Label → Type 0
FencedIsEmpty setup start labels = (hart : ℕ) (before next : State) (step : IsStep setup start labels before (label.Exec hart) next)
    → (asked : Act) → comes_upon setup before hart ≡ Some (Asks asked) → IsTrue (wants_empty asked)
    → AllInMemory setup start before step.front hart × AllInMemory setup start next (step.front ++ label.Exec hart ∷ []) hart

-- ---- all of them

-- A run keeps total store order.
pub record KeepsTotalStoreOrder (setup : Setup) (start : State) (labels : List Label) : Type 0 where
  pub own_stores : SeesOwnStore setup start labels
  pub sources : BytesComeFromStores setup start labels
  pub one_order : OneOrder setup start labels
  pub fences : FencedIsEmpty setup start labels
