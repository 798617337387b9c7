use Rattle.std.proofs.Common.{drop, map}
use Rattle.std.specs.List.{AllByRecursion}
use Rattle.wire_msg.specs.WellFormed.{FieldsAgree}
use Rattle.rack_net.specs.Net.{IsLinkOf, IsNet}
use Rattle.rack_core.proofs.Events.Sending.{SendsOnward}
use Rattle.rack_core.proofs.sends.send_each.Given as goal

abbrev pub invariant-loop-msg : goal.invariant-loop-msg
invariant-loop-msg l =
    SendsOnward (map (λ msg. (l.link, msg)) (drop l.msg-index l.msgs)) (map (λ msg. (l.link, msg)) l.msgs) l.initial.net l.net
    × IsLinkOf l.net l.link × AllByRecursion FieldsAgree (drop l.msg-index l.msgs)
    × (IsNet l.initial.net → IsNet l.net)
