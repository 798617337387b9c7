-- The labels of a command that is carried out where nothing else happens: first the stores that hold it up.
use Rattle.std.specs.Prelude.{◌≡◌, ℕ, zero, suc, ◌<◌, true, List, [], ◌∷◌, ◌++◌, map, slice_get, Some, if◌then◌else◌}
use Rattle.std.specs.List.{list_any}
use Rattle.mind_base.specs.Inside.{stores_in}
use Rattle.mind_base.specs.Pending.{PendingView}
use Rattle.mind_base.specs.Span.{SpanView}
use Rattle.mind_base.specs.declared.commands.Command.{Command}
use Rattle.mind_base.specs.declared.plans.ThreadPlan.{ThreadPlan}
use Rattle.hart_effect.specs.Thread.{Thread}
use Rattle.tso_machine.specs.Commands.{is_change, command_span}
use Rattle.tso_machine.specs.State.{Setup}
use Rattle.tso_machine.specs.declared.labels.Label.{Label}
use Rattle.tso_machine.specs.declared.labels.Label.TheVariants as label

-- how many stores of a buffer, the oldest first, take effect up to the last that lies in the span
abbrev pub left_in : SpanView → ℕ → List PendingView → ℕ
left_in span domain [] = 0
left_in span domain (store ∷ stores) =
    if list_any (stores_in span domain) (store ∷ stores) then suc (left_in span domain stores) else 0

-- so many drains of a thread
abbrev pub drains : ℕ → ℕ → List Label
drains hart zero = []
drains hart (suc n) = label.Drain hart ∷ drains hart n

-- the drains of the threads from number hart on, in rising number, each up to its last store in the span
abbrev pub drains_from : SpanView → ℕ → List ThreadPlan → List (List PendingView) → List Label
drains_from span hart [] buffers = []
drains_from span hart (plan ∷ plans) [] = []
drains_from span hart (plan ∷ plans) (buffer ∷ buffers) =
    drains hart (left_in span plan.domain buffer) ++ drains_from span (suc hart) plans buffers

abbrev pub buffers_of : List Thread → List (List PendingView)
buffers_of threads = map (λ thread. thread.buffer) threads

-- the label of the command itself; the machine sees nothing of one that moves pages
abbrev pub own_label : ℕ → Command → List Label
own_label index command = if is_change command then label.Command index ∷ [] else []

-- The labels of a command with this number: for each thread, in rising number, drains up to its last store in the
-- span; then the command itself.
abbrev pub row_of : Setup → List Thread → ℕ → Command → List Label
row_of setup threads index command =
    drains_from (command_span command) 0 setup.plan.threads (buffers_of threads) ++ own_label index command

-- thread number hart buffers a store in the span
pub record BuffersIn (setup : Setup) (threads : List Thread) (span : SpanView) (hart : ℕ) : Type 0 where
  pub plan : ThreadPlan
  pub thread : Thread
  pub planned : slice_get setup.plan.threads hart ≡ Some plan
  pub there : slice_get threads hart ≡ Some thread
  pub buffers : list_any (stores_in span plan.domain) thread.buffer ≡ true

-- and no thread of a lower number does
pub record BuffersLowest (setup : Setup) (threads : List Thread) (span : SpanView) (hart : ℕ) : Type 0 where
  pub here : BuffersIn setup threads span hart
  pub lowest : (lower : ℕ) → lower < hart → BuffersIn setup threads span lower → ⊥
