-- The bytes of a store: how many there are, where they end, and which they are.
use Rattle.std.proofs.Common.{◌≡◌, ℕ, zero, suc, ◌+◌, ◌%◌, ◌<◌, ◌≤◌, ◌⊎◌, inl, inr, get_or, refl, arith}
use Rattle.std.specs.Int.{w32, to_le_bytes}
use Rattle.mind_base.specs.Pending.{IsPending, byte_number}

-- a store ends inside its page
pub end_inside : (address size : ℕ) → IsPending address size → address % 4096 + size ≤ 4096
end_inside address size h = by_size h.0 h.1 where
  by_size : (size ≡ 1) ⊎ ((size ≡ 2) ⊎ (size ≡ 4)) → address % size ≡ 0 → address % 4096 + size ≤ 4096
  by_size (inl one) even = omega arith
  by_size (inr (inl two)) even = let halves : address % 2 ≡ 0 = rw two at even in omega arith
  by_size (inr (inr four)) even = let quarters : address % 4 ≡ 0 = rw four at even in omega arith

-- a store has at most 4 bytes
pub size_le_4 : (address size : ℕ) → IsPending address size → size ≤ 4
size_le_4 address size h = by_size h.0 where
  by_size : (size ≡ 1) ⊎ ((size ≡ 2) ⊎ (size ≡ 4)) → size ≤ 4
  by_size (inl one) = omega arith
  by_size (inr (inl two)) = omega arith
  by_size (inr (inr four)) = omega arith

-- byte i of a value, the lowest first
pub get_or-to_le_bytes : (value i : ℕ) → i < 4 → get_or (to_le_bytes w32 value) i 0 ≡ byte_number value i
get_or-to_le_bytes value zero h = omega arith
get_or-to_le_bytes value (suc zero) h = refl
get_or-to_le_bytes value (suc (suc zero)) h = refl
get_or-to_le_bytes value (suc (suc (suc zero))) h = refl
get_or-to_le_bytes value (suc (suc (suc (suc i)))) h = absurd (omega arith)
