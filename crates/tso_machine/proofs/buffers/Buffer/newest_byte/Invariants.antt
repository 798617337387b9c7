use Rattle.std.proofs.Common.{◌≡◌}
use Rattle.std.specs.VecDeque.Iter.{deque_iter_rest}
use Rattle.mind_base.specs.Pending.{newest_from, newest_byte}
use Rattle.tso_machine.proofs.buffers.Buffer.newest_byte.Given as goal

abbrev pub invariant-loop-store : goal.invariant-loop-store
invariant-loop-store l = newest_from l.byte (deque_iter_rest l.store-iterator) l.address ≡ newest_byte l.self l.address
