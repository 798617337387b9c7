-- What a thread of the code has done of a deed.
use Rattle.std.specs.Prelude.{◌≡◌, ℕ, Bool, true, false, List, Option, Some, None}
use Rattle.flat_memory.specs.FlatMemory.{MemoryView, byte_in}
use Rattle.hart_effect.specs.Thread.{Thread}
use Rattle.hart_effect.specs.Deed.{Deed, Alone, Storing}
use Rattle.mind_base.specs.Place.{place_of, granule_at}
use Rattle.tso_machine.specs.Storing.{stored_by}
use Rattle.tso_machine.specs.Step.{threads_off}
use Rattle.tso_machine.specs.declared.deeds.Done.{Done}
use Rattle.tso_machine.specs.declared.deeds.Done.TheVariants as done

-- nothing, where there is no deed; else the thread is as the deed says, and a store of it stands in memory
abbrev pub ThreadDoes : Done → ℕ → Thread → MemoryView → Thread → MemoryView → Option Deed → Type 0
ThreadDoes answer domain old m new m' None = (answer ≡ done.Nothing) × (new ≡ old) × (m' ≡ m)
ThreadDoes answer domain old m new m' (Some (Alone thread)) = (answer ≡ done.Changed) × (new ≡ thread) × (m' ≡ m)
ThreadDoes answer domain old m new m' (Some (Storing thread store)) =
    (answer ≡ done.Stored store) × (new ≡ thread) × (byte_in m' ≡ stored_by (byte_in m) domain store)

-- what was done is settled: where a store took effect, all reservations on its granule go
abbrev pub EndsReservations : Bool → ℕ → Done → List Thread → List Thread → Type 0
EndsReservations answer domain done.Nothing old new = (answer ≡ false) × (new ≡ old)
EndsReservations answer domain done.Changed old new = (answer ≡ true) × (new ≡ old)
EndsReservations answer domain (done.Stored store) old new = (answer ≡ true) × (new ≡ threads_off (granule_at (place_of domain store.address)) old)
