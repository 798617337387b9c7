use Rattle.std.proofs.Common.{◌≡◌, ◌+◌, ◌∷◌, drop, subst, arith}
use Rattle.std.specs.List.{AllByRecursion}
use Rattle.std.proofs.lemmas.Grind.{common_steps}
use Rattle.wire_msg.specs.WellFormed.{FieldsAgree}
use Rattle.rack_net.specs.Net.{IsLinkOf}
use Rattle.rack_core.proofs.Events.Sending.{SendsOnward, sent-one, still-links}
use Rattle.rack_core.proofs.sends.send_all.Goals as goal

pub loop-link-preserved : goal.loop-link-preserved
loop-link-preserved c =
    let sent = c.loop-link-item.result in
    let rest = drop (c.loop-link.link-index + 1) c.args.msgs.now in
    let here : drop c.loop-link.link-index c.args.msgs.now ≡ sent ∷ rest = grind (arith, common_steps) in (
      sent-one sent.0 sent.1 rest c.args.msgs.now c.args.net.now c.loop-link.net c.send.new.net
          (subst (λ ms. SendsOnward ms c.args.msgs.now c.args.net.now c.loop-link.net) here c.loop-link.invariant.0) c.in_ok-send.ensures.ok,
      still-links sent.0 sent.1 c.loop-link.net c.send.new.net c.in_ok-send.ensures.ok rest
          (subst (AllByRecursion (λ m. IsLinkOf c.loop-link.net m.0 × FieldsAgree m.1)) here c.loop-link.invariant.1).1,
      λ was. c.send.ensures.net,
    )
