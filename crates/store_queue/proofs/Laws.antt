-- Laws of queues that their proofs cite.
use Rattle.std.proofs.Common.{◌≡◌, ℕ, ◌≤◌, ◌↔◌, ◌⊎◌, inl, inr, Bool, true, false, cond, IfSome, IfNone, ap, ◌∙◌, All, List, [], ◌∷◌, length, drop, slice_get, Option, Some, None, IsNone, refl, arith, length-drop}
use Rattle.std.proofs.lemmas.List.Elements.{All-drop, All-cons, All-nil}
use Rattle.mind_base.specs.Pending.{PendingView, IsPending, covers, byte_at, newest_from, newest_byte}
use Rattle.store_queue.specs.StoreQueue.{QueueView, queue_of, IsStoreQueue, IsNewestByte}

-- there is no first store exactly where there is none
pub IsNone-first : (stores : List PendingView) → IsNone (slice_get stores 0) ↔ (stores ≡ [])
IsNone-first [] = (λ _. refl, λ _. refl)
IsNone-first (store ∷ stores) = (λ h. cc, λ h. cc)

-- a queue without its first store is a queue
pub IsStoreQueue-drop : (queue : QueueView) (n : ℕ) → IsStoreQueue queue → IsStoreQueue (queue_of (drop n queue.stores) queue.capacity)
IsStoreQueue-drop queue n is = record {
  some = is.some;
  most = is.most;
  fits = let fits : length queue.stores ≤ queue.capacity = is.fits in simp length-drop (omega arith);
  aligned = All-drop (λ store. IsPending store.address store.size) n queue.stores is.aligned;
}

-- no store covers the address
abbrev NoneCovers : List PendingView → ℕ → Type 0
NoneCovers stores address = All (λ store. covers store address ≡ false) stores

-- the byte that is found is the one before the stores where none covers the address, else that of the newest
abbrev IsFound : Option ℕ → List PendingView → ℕ → Type 0
IsFound byte stores address =
    ((newest_from byte stores address ≡ byte) × NoneCovers stores address)
    ⊎ ((found : ℕ) × (newest_from byte stores address ≡ Some found) × IsNewestByte stores address found)

found_of : (byte : Option ℕ) (stores : List PendingView) (address : ℕ) → IsFound byte stores address
found_of byte [] address = inl (refl, All-nil (λ store. covers store address ≡ false))
found_of byte (store ∷ stores) address = by_cover (covers store address) refl (found_of (cond (covers store address) (Some (byte_at store address)) byte) stores address) where
  by_cover : (b : Bool) → covers store address ≡ b → IsFound (cond (covers store address) (Some (byte_at store address)) byte) stores address → IsFound byte (store ∷ stores) address
  by_cover b is (inr newer) = inr (
    newer.0,
    newer.1,
    record {
      older = store ∷ newer.2.older;
      store = newer.2.store;
      newer = newer.2.newer;
      split = ap (λ xs. store ∷ xs) newer.2.split;
      covered = newer.2.covered;
      newest = newer.2.newest;
      byte_is = newer.2.byte_is;
    },
  )
  by_cover true is (inl same) = inr (
    byte_at store address,
    same.0 ∙ rw is refl,
    record {
      older = [];
      store = store;
      newer = stores;
      split = refl;
      covered = is;
      newest = same.1;
      byte_is = refl;
    },
  )
  by_cover false is (inl same) = inl (same.0 ∙ rw is refl, All-cons (λ s. covers s address ≡ false) store stores is same.1)

-- the newest byte is the byte of the newest store that covers the address
pub IfSome-newest_byte : (stores : List PendingView) (address : ℕ) → IfSome (newest_byte stores address) (IsNewestByte stores address)
IfSome-newest_byte stores address = by_find (found_of None stores address) where
  by_find : IsFound None stores address → IfSome (newest_byte stores address) (IsNewestByte stores address)
  by_find (inl same) = rw same.0 tt
  by_find (inr found) = rw found.1 found.2

-- there is no newest byte only where no store covers the address
pub IfNone-newest_byte : (stores : List PendingView) (address : ℕ) → IfNone (newest_byte stores address) (NoneCovers stores address)
IfNone-newest_byte stores address = by_find (found_of None stores address) where
  by_find : IsFound None stores address → IfNone (newest_byte stores address) (NoneCovers stores address)
  by_find (inl same) = rw same.0 same.1
  by_find (inr found) = rw found.1 tt
