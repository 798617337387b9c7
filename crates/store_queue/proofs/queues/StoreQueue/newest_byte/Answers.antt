use Rattle.std.proofs.Common.{◌≡◌, rules}
use Rattle.mind_base.specs.Pending.{newest_byte}
use Rattle.store_queue.proofs.Laws.{IfSome-newest_byte, IfNone-newest_byte}
use Rattle.store_queue.proofs.queues.StoreQueue.newest_byte.Goals as goal

pub returns-clause-newest : goal.returns-clause-newest
returns-clause-newest c =
    let byte : c.loop-store.byte ≡ newest_byte c.args.self.now.stores c.args.address = search rules in
    rw byte (IfSome-newest_byte c.args.self.now.stores c.args.address)

pub returns-clause-none : goal.returns-clause-none
returns-clause-none c =
    let byte : c.loop-store.byte ≡ newest_byte c.args.self.now.stores c.args.address = search rules in
    rw byte (IfNone-newest_byte c.args.self.now.stores c.args.address)
