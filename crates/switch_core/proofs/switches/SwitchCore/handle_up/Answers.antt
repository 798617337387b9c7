use Rattle.std.proofs.Common.{sym, subst}
use Rattle.std.specs.Prelude.{OnOk}
use Rattle.wire_msg.specs.declared.msgs.Msg.{Msg}
use Rattle.switch_core.specs.Handling.{from_blade}
use Rattle.switch_core.specs.Sending.{Comes, start_at}
use Rattle.switch_core.proofs.Answering.{answered-comes, asked-comes, back-comes}
use Rattle.switch_core.proofs.switches.SwitchCore.handle_up.Goals as goal

pub returns-in-Back-clause-comes : goal.returns-in-Back-clause-comes
returns-in-Back-clause-comes c =
    subst (λ (m : Msg). OnOk c.take_back.result (Comes (start_at c.args.self.now c.args.out.now.items c.args.log.now.notes) (from_blade c.args.blade m c.args.self.now) c.args.self.now c.take_back.new.out.items c.args.log.now.notes)) (sym c.in-Back.is)
    (back-comes c.take_back.result c.args.self.now c.args.out.now.items c.take_back.new.out.items c.args.log.now.notes c.in-Back.page c.in-Back.image c.take_back.ensures.switch c.take_back.ensures.sent)

pub returns-in-Get-clause-comes : goal.returns-in-Get-clause-comes
returns-in-Get-clause-comes c =
    subst (λ (m : Msg). OnOk c.ask.result (Comes (start_at c.args.self.now c.args.out.now.items c.args.log.now.notes) (from_blade c.args.blade m c.args.self.now) c.ask.new.self c.args.out.now.items c.args.log.now.notes)) (sym c.in-Get.is)
    (asked-comes c.ask.result c.args.self.now c.ask.new.self c.args.out.now.items c.args.log.now.notes c.args.blade c.in-Get.page c.in-Get.write c.ask.ensures.switch)

pub returns-in-Ack-clause-comes : goal.returns-in-Ack-clause-comes
returns-in-Ack-clause-comes c =
    subst (λ (m : Msg). OnOk c.answer.result (Comes (start_at c.args.self.now c.args.out.now.items c.args.log.now.notes) (from_blade c.args.blade m c.args.self.now) c.answer.new.self c.args.out.now.items c.answer.new.log.notes)) (sym c.in-Ack.is)
    (answered-comes c.answer.result c.args.self.now c.answer.new.self c.args.out.now.items c.args.log.now.notes c.answer.new.log.notes c.in-Ack.number c.args.blade c.in-Ack.count c.answer.ensures.switch c.answer.ensures.noted)
