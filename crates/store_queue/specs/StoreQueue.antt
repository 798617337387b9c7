-- The queue in which a thread's stores wait.
use Rattle.std.specs.Prelude.{◌≡◌, ℕ, ◌<◌, ◌≤◌, Bool, IsTrue, IsFalse, List, ◌∷◌, ◌++◌, length, All}
use Rattle.mind_base.specs.Page.{page_of}
use Rattle.mind_base.specs.Pending.{PendingView, IsPending, covers, byte_at}
use Rattle.mind_base.specs.Span.{in_span}

-- the stores that wait, the oldest first, and how many may
pub record QueueView : Type 0 where
  pub stores : List PendingView
  pub capacity : ℕ

abbrev pub queue_of : List PendingView → ℕ → QueueView
queue_of stores capacity = record { stores = stores; capacity = capacity }

-- a queue has 1 to 64 places, and no more stores than places; each store is aligned
pub record IsStoreQueue (queue : QueueView) : Type 0 where
  pub some : 0 < queue.capacity
  pub most : queue.capacity ≤ 64
  pub fits : length queue.stores ≤ queue.capacity
  pub aligned : All (λ store. IsPending store.address store.size) queue.stores

-- the byte at an address is that of a store which covers it, and no newer store does
pub record IsNewestByte (stores : List PendingView) (address byte : ℕ) : Type 0 where
  pub older : List PendingView
  pub store : PendingView
  pub newer : List PendingView
  pub split : stores ≡ older ++ store ∷ newer
  pub covered : IsTrue (covers store address)
  pub newest : All (λ s. IsFalse (covers s address)) newer
  pub byte_is : byte ≡ byte_at store address

-- The test whether a store lies in one of so many pages from a page number on. The domain is that of the
-- queue's thread, for the store and the pages alike, and so counts for nothing.
abbrev pub store_lies_in : ℕ → ℕ → PendingView → Bool
store_lies_in base pages store = in_span (record { domain = 0; base = base; pages = pages }) (page_of 0 store.address)
