-- One step of the machine. A label that is not enabled leads nowhere.
use Rattle.std.specs.Prelude.{ℕ, zero, suc, ◌+◌, List, [], ◌∷◌, ◌++◌, map, slice_get, slice_set, Option, Some, None, if◌then◌else◌, option_and_then, option_map}
use Rattle.mind_base.specs.Pending.{PendingView, byte_number}
use Rattle.mind_base.specs.Permission.{permission_of}
use Rattle.hart_effect.specs.Thread.{Thread}
use Rattle.tso_machine.specs.State.{Setup, Write, Byte, State}
use Rattle.mind_base.specs.Place.{Granule, place_of, granule_at, same_granule}
use Rattle.tso_machine.specs.Memory.{byte_of}
use Rattle.tso_machine.specs.Commands.{after_command}
use Rattle.hart_effect.specs.Access.{Around}
use Rattle.hart_effect.specs.Deed.{Deed, Alone, Storing, executed, drain_deed}
use Rattle.tso_machine.specs.declared.labels.Label.{Label}
use Rattle.tso_machine.specs.declared.labels.Label.TheVariants as label

-- what thread number hart finds around it
abbrev pub around_in : State → ℕ → ℕ → Around
around_in state hart domain =
    record { hart = hart; domain = domain; byte = byte_of state.writes; perm = permission_of state.perms }

-- ---- a store takes effect

-- the bytes of a value from number i on, so many, are written at an address and those behind it
abbrev pub bytes_from : ℕ → ℕ → ℕ → ℕ → ℕ → List Write
bytes_from domain address value i zero = []
bytes_from domain address value i (suc left) =
    Byte (place_of domain (address + i)).domain (place_of domain (address + i)).address (byte_number value i) ∷ bytes_from domain address value (suc i) left

-- the bytes of a store of a thread of a domain
abbrev pub bytes_of : ℕ → PendingView → List Write
bytes_of domain store = bytes_from domain store.address store.value 0 store.size

-- a reservation on the granule is gone; any other stays
abbrev pub reservation_off : Granule → Option Granule → Option Granule
reservation_off granule None = None
reservation_off granule (Some reserved) = if same_granule reserved granule then None else Some reserved

abbrev pub thread_off : Granule → Thread → Thread
thread_off granule thread = record thread { reserved = reservation_off granule thread.reserved }

-- no thread has a reservation on the granule
abbrev pub threads_off : Granule → List Thread → List Thread
threads_off granule threads = map (thread_off granule) threads

-- ---- steps

-- thread number hart of a domain does its deed; a store that takes effect ends all reservations on its granule
abbrev pub done_by : ℕ → ℕ → State → Deed → State
done_by hart domain state (Alone thread) = record state { threads = slice_set state.threads hart thread }
done_by hart domain state (Storing thread store) = record state {
  threads = threads_off (granule_at (place_of domain store.address)) (slice_set state.threads hart thread);
  writes = state.writes ++ bytes_of domain store;
}

-- thread hart executes one instruction of its image
abbrev pub after_exec : Setup → State → ℕ → Option State
after_exec setup state hart =
    option_and_then (λ plan. option_and_then (λ image. option_and_then (λ thread.
    option_map (done_by hart plan.domain state) (executed image (around_in state hart plan.domain) thread))
    (slice_get state.threads hart)) (slice_get setup.images plan.image)) (slice_get setup.plan.threads hart)

-- the oldest store of thread hart takes effect
abbrev pub after_drain : Setup → State → ℕ → Option State
after_drain setup state hart =
    option_and_then (λ plan. option_and_then (λ thread.
    option_map (done_by hart plan.domain state) (drain_deed thread))
    (slice_get state.threads hart)) (slice_get setup.plan.threads hart)

-- the state after a label that is enabled
abbrev pub after : Setup → State → Label → Option State
after setup state (label.Exec hart) = after_exec setup state hart
after setup state (label.Drain hart) = after_drain setup state hart
after setup state (label.Command index) = after_command setup state index
