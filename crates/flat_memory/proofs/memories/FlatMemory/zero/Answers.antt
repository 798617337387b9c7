use Rattle.std.proofs.Common.{◌<◌, length, arith, refl}
use Rattle.flat_memory.proofs.AllDomains.{zeroed-set}
use Rattle.flat_memory.proofs.memories.FlatMemory.zero.Goals as goal

pub returns : goal.returns
returns c =
    let there : c.span.inside.domain < length c.self.inside.domains.items = omega (arith, c.self.invariant, c.span.invariant.0) in
    rw (← c.self.view_is, ← c.span.view_is)
    (zeroed-set c.self.inside.domains.items c.span.inside.domain c.index_mut.result.now c.zero.new.self there c.index_mut.ensures.value
    (record { domain = c.span.inside.domain; base = c.span.inside.base; pages = c.span.inside.pages }) refl c.zero.ensures)
