-- The bytes of memory after a store takes effect.
use Rattle.std.proofs.Common.{◌≡◌, ℕ, zero, suc, ◌+◌, ◌-◌, ◌∙◌, ap, sym, refl, cond, Bool, false, ◌&&◌, ◌==◌, nat_le, nat_lt, List, [], ◌∷◌, ◌++◌, arith}
use Rattle.std.proofs.Math.Path.{fun_ext}
use Rattle.std.proofs.lemmas.Grind.{common_steps}
use Rattle.flat_memory.specs.FlatMemory.{byte_stored}
use Rattle.mind_base.specs.Pending.{PendingView, byte_number}
use Rattle.tso_machine.specs.State.{Write, Byte}
use Rattle.tso_machine.specs.Memory.{byte_after, byte_from, byte_of}
use Rattle.tso_machine.specs.Step.{bytes_from, bytes_of}

pub byte_from-append : (byte : ℕ) (xs ys : List Write) (d a : ℕ) → byte_from byte (xs ++ ys) d a ≡ byte_from (byte_from byte xs d a) ys d a
byte_from-append byte [] ys d a = refl
byte_from-append byte (x ∷ xs) ys d a = byte_from-append (byte_after x d a byte) xs ys d a

-- an address among so many from one on
among : ℕ → ℕ → ℕ → Bool
among first left a = nat_le first a && nat_lt a (first + left)

none-among : (first a : ℕ) → among first 0 a ≡ false
unfolding among
none-among first a = grind (arith, common_steps)

-- the byte after one more is written, by whether it is the first of these or among those behind it
one-more : (byte domain address value i left d a : ℕ)
    → cond (d == domain && among (address + suc i) left a) (byte_number value (a - address)) (byte_after (Byte domain (address + i) (byte_number value i)) d a byte)
    ≡ cond (d == domain && among (address + i) (suc left) a) (byte_number value (a - address)) byte
unfolding among
one-more byte domain address value i left d a = grind (arith, common_steps)

written : (domain address value i left byte d a : ℕ)
    → byte_from byte (bytes_from domain address value i left) d a
    ≡ cond (d == domain && among (address + i) left a) (byte_number value (a - address)) byte
unfolding among
written domain address value i zero byte d a = grind (arith, common_steps)
written domain address value i (suc left) byte d a =
    written domain address value (suc i) left (byte_after (Byte domain (address + i) (byte_number value i)) d a byte) d a
    ∙ one-more byte domain address value i left d a

-- the bytes that a store leaves are those of its writes
pub stored-is : (writes : List Write) (domain : ℕ) (store : PendingView) → byte_stored (byte_of writes) domain store ≡ byte_of (writes ++ bytes_of domain store)
unfolding among
stored-is writes domain store = fun_ext (λ d. fun_ext (λ a. at d a)) where
  at : (d a : ℕ) → byte_stored (byte_of writes) domain store d a ≡ byte_of (writes ++ bytes_of domain store) d a
  at d a = sym (byte_from-append 0 writes (bytes_of domain store) d a ∙ written domain store.address store.value 0 store.size (byte_of writes d a) d a ∙ ap (λ n. cond (d == domain && among n store.size a) (byte_number store.value (a - store.address)) (byte_of writes d a)) (omega arith))
