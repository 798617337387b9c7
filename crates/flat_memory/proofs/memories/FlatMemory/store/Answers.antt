use Rattle.std.proofs.Common.{◌<◌, length, arith}
use Rattle.std.proofs.lemmas.Result.{on_ok_weaker}
use Rattle.flat_memory.proofs.AllDomains.{stored-set}
use Rattle.flat_memory.proofs.memories.FlatMemory.store.Goals as goal

pub returns-clause-ok : goal.returns-clause-ok
returns-clause-ok c =
    let there : c.args.domain < length c.self.inside.domains.items = omega (arith, c.self.invariant) in
    rw (← c.self.view_is)
    (on_ok_weaker c.store.result (stored-set c.self.inside.domains.items c.args.domain c.index_mut.result.now c.store.new.self there c.index_mut.ensures.value c.args.store) c.store.ensures.ok)
