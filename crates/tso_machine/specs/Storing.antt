-- A store takes effect at the byte of memory that its thread names.
use Rattle.std.specs.Prelude.{ℕ}
use Rattle.flat_memory.specs.FlatMemory.{byte_stored}
use Rattle.mind_base.specs.Pending.{PendingView}
use Rattle.mind_base.specs.Place.{place_of}

-- the bytes of memory after a store of a thread of a domain takes effect
abbrev pub stored_by : (ℕ → ℕ → ℕ) → ℕ → PendingView → ℕ → ℕ → ℕ
stored_by byte domain store =
    byte_stored byte (place_of domain store.address).domain (record store { address = (place_of domain store.address).address })
