use Rattle.std.proofs.Common.{◌≡◌, ◌+◌, List, ◌∷◌, drop, map, subst, arith}
use Rattle.std.specs.List.{AllByRecursion}
use Rattle.std.proofs.lemmas.Grind.{common_steps}
use Rattle.wire_msg.specs.WellFormed.{FieldsAgree}
use Rattle.wire_msg.specs.declared.msgs.Msg.{Msg}
use Rattle.rack_core.proofs.Events.Sending.{SendsOnward, sent-one, still-link}
use Rattle.rack_core.proofs.sends.send_each.Goals as goal

pub loop-msg-preserved : goal.loop-msg-preserved
loop-msg-preserved c =
    let here : drop c.loop-msg.msg-index c.args.msgs.now ≡ c.msg-item.result ∷ drop (c.loop-msg.msg-index + 1) c.args.msgs.now = grind (arith, common_steps) in
    let on = λ (ms : List Msg). map (λ msg. (c.args.link, msg)) ms in (
      sent-one c.args.link c.msg-item.result (on (drop (c.loop-msg.msg-index + 1) c.args.msgs.now)) (on c.args.msgs.now) c.args.net.now c.loop-msg.net c.send.new.net
          (subst (λ ms. SendsOnward (on ms) (on c.args.msgs.now) c.args.net.now c.loop-msg.net) here c.loop-msg.invariant.0) c.in_ok-send.ensures.ok,
      still-link c.args.link c.args.link c.msg-item.result c.loop-msg.net c.send.new.net c.in_ok-send.ensures.ok c.loop-msg.invariant.1,
      (subst (AllByRecursion FieldsAgree) here c.loop-msg.invariant.2).1,
      λ was. c.send.ensures.net,
    )
