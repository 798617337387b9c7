use Rattle.std.proofs.Common.{rules}
use Rattle.tso_machine.proofs.Carrying.{exec-leads, found-at}
use Rattle.tso_machine.proofs.machines.Machine.execute.Goals as goal

pub returns-clause-ok : goal.returns-clause-ok
returns-clause-ok c = λ state stands. exec-leads c.args.self.now _ state c.args.hart c.in_ok-done.done c.in-Some.thread.now c.in-Some-get.image.now
    (found-at c.as_slice.result.now _ c.from.result c.args.hart c.in-Some.thread.now (search rules) c.from.ensures c.in-Some.ensures.lookup.3.0 c.in-Some.ensures.lookup.1)
    (found-at c.as_slice-2.result.now _ c.from-2.result c.in-Some.thread.now.image c.in-Some-get.image.now (search rules) c.from-2.ensures c.in-Some-get.ensures.lookup.3.0 c.in-Some-get.ensures.lookup.1)
    (search rules) (record { setup = search rules; perms = search rules; taken = search rules }) stands
