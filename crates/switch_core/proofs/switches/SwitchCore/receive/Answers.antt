use Rattle.switch_core.specs.Sending.{start_at}
use Rattle.switch_core.proofs.Answering.{received-then, spent-count}
use Rattle.switch_core.proofs.Passing.{begins-then}
use Rattle.switch_core.proofs.switches.SwitchCore.receive.Goals as goal

pub returns-clause-received : goal.returns-clause-received
returns-clause-received c =
    received-then c.serve.result c.args.from c.args.msg (start_at c.args.self.now c.args.out.now.items c.args.log.now.notes) c.handle.new.self c.serve.new.self c.handle.new.out.items c.serve.new.out.items c.handle.new.log.notes c.serve.new.log.notes
    c.in_ok-handle.ensures.comes c.serve.ensures.serves
    (begins-then c.args.out.now.items c.handle.new.out.items c.serve.new.out.items c.handle.ensures.out c.serve.ensures.keeps.sent)
    (begins-then c.args.log.now.notes c.handle.new.log.notes c.serve.new.log.notes c.handle.ensures.log c.serve.ensures.keeps.noted)

pub returns-clause-spent : goal.returns-clause-spent
returns-clause-spent c = λ e.
    spent-count c.args.self.now c.handle.new.self c.serve.new.self c.handle.ensures.last c.handle.ensures.remains.slots c.serve.ensures.keeps.stays (c.serve.ensures.spent e)
