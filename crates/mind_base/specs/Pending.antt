-- Stores that wait in a thread's queue, and the bytes that they hold.
use Rattle.std.specs.Prelude.{◌≡◌, ℕ, ◌+◌, ◌-◌, ◌/◌, ◌%◌, ◌^◌, ◌⊎◌, Bool, ◌&&◌, nat_lt, nat_le, List, [], ◌∷◌, Option, Some, None, if◌then◌else◌}

-- a store: the address of its lowest byte, its size in bytes, and the value whose low bytes it stores
pub record PendingView : Type 0 where
  pub address : ℕ
  pub size : ℕ
  pub value : ℕ

-- a store has 1, 2 or 4 bytes and stands at a multiple of its size
abbrev pub IsPending : ℕ → ℕ → Type 0
IsPending address size = ((size ≡ 1) ⊎ ((size ≡ 2) ⊎ (size ≡ 4))) × (address % size ≡ 0)

-- the store has a byte at the address
abbrev pub covers : PendingView → ℕ → Bool
covers store address = nat_le store.address address && nat_lt address (store.address + store.size)

-- byte number i of a value, the lowest first
abbrev pub byte_number : ℕ → ℕ → ℕ
byte_number value i = value / 256 ^ i % 256

-- the byte that a store has at an address which it covers
abbrev pub byte_at : PendingView → ℕ → ℕ
byte_at store address = byte_number store.value (address - store.address)

-- The byte for an address in the newest store that covers it, in a list of stores, the oldest first.
abbrev pub newest_from : Option ℕ → List PendingView → ℕ → Option ℕ
newest_from byte [] address = byte
newest_from byte (store ∷ newer) address =
    newest_from (if covers store address then Some (byte_at store address) else byte) newer address

abbrev pub newest_byte : List PendingView → ℕ → Option ℕ
newest_byte stores address = newest_from None stores address
