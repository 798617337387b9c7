use Rattle.std.proofs.Common.{◌≡◌}
use Rattle.mind_base.specs.Pending.{newest_from, newest_byte}
use Rattle.store_queue.proofs.queues.StoreQueue.newest_byte.Given as goal

abbrev pub invariant-loop-store : goal.invariant-loop-store
invariant-loop-store l = newest_from l.byte l.store-iterator l.address ≡ newest_byte l.self.stores l.address
