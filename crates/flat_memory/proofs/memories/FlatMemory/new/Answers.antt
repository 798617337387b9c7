use Rattle.flat_memory.proofs.AllDomains.{byte_in-none}
use Rattle.flat_memory.proofs.memories.FlatMemory.new.Goals as goal

pub returns : goal.returns
returns c = record { zero = byte_in-none c.loop.domains.items c.loop.counter c.loop.invariant }
