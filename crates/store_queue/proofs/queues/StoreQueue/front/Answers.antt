use Rattle.std.proofs.Common.{◌≡◌, slice_get, rules}
use Rattle.store_queue.proofs.Laws.{IsNone-first}
use Rattle.store_queue.proofs.queues.StoreQueue.front.Goals as goal

pub returns-clause-empty : goal.returns-clause-empty
returns-clause-empty c =
    let first : c.copied.result ≡ slice_get c.args.self.now.stores 0 = search rules in
    rw first (IsNone-first c.args.self.now.stores)
