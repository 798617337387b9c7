use Rattle.std.proofs.Common.{◌≡◌, slice_get, rules}
use Rattle.store_queue.proofs.Laws.{IsNone-first, IsStoreQueue-drop}
use Rattle.store_queue.proofs.queues.StoreQueue.pop.Goals as goal

pub invariant_of-self : goal.invariant_of-self
invariant_of-self c = rw c.pop_front.ensures.items (IsStoreQueue-drop _ 1 c.self.invariant)

pub returns-clause-shape : goal.returns-clause-shape
returns-clause-shape c = invariant_of-self c

pub returns-clause-empty : goal.returns-clause-empty
returns-clause-empty c =
    let first : c.pop_front.result ≡ slice_get c.args.self.now.stores 0 = search rules in
    rw first (IsNone-first c.args.self.now.stores)
