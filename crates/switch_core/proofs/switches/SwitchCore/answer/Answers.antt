use Rattle.switch_core.specs.Switch.{SwitchView}
use Rattle.switch_core.proofs.Answering.{switch-answered}
use Rattle.switch_core.proofs.switches.SwitchCore.answer.Goals as goal

pub invariant_of-self : goal.invariant_of-self
invariant_of-self c =
    let s : SwitchView = record { plan = c.self.inside.plan; table = c.self.inside.table; protect = c.self.inside.protect; directory = c.self.inside.directory; requests = c.self.inside.requests; last = c.self.inside.last } in
    switch-answered s c.args.number c.args.blade c.args.count c.ack.new.directory c.end_all.new.directory c.self.invariant c.ack.ensures.acknowledged c.ack.ensures.count c.end_all.ensures.count c.end_all.ensures.slots c.end_all.ensures.fit c.end_all.ensures.waits
