use Rattle.std.proofs.Common.{arith}
use Rattle.std.proofs.lemmas.Grind.{common_steps}
use Rattle.hart_effect.specs.Deed.{drain_deed}
use Rattle.tso_machine.proofs.Carrying.{carried-at}
use Rattle.tso_machine.proofs.machines.drain_among.Goals as goal

pub returns-clause-ok : goal.returns-clause-ok
returns-clause-ok c = carried-at drain_deed c.in_ok-done.done c.settle_deed.result c.from-index.result c.args.hart c.args.domain
    c.args.harts.now.items c.settle_deed.new.harts.items c.index_mut.result.now c.drain.new.self c.args.memory.now c.drain.new.memory
    c.from-index.ensures (grind (arith, common_steps)) c.index_mut.ensures.value c.in_ok-done.ensures.ok c.settle_deed.ensures.settles
