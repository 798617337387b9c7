use Rattle.std.proofs.Common.{drop}
use Rattle.std.specs.List.{AllByRecursion}
use Rattle.wire_msg.specs.WellFormed.{FieldsAgree}
use Rattle.rack_net.specs.Net.{IsLinkOf, IsNet}
use Rattle.rack_core.proofs.Events.Sending.{SendsOnward}
use Rattle.rack_core.proofs.sends.send_all.Given as goal

abbrev pub invariant-loop-link : goal.invariant-loop-link
invariant-loop-link l =
    SendsOnward (drop l.link-index l.msgs) l.msgs l.initial.net l.net
    × AllByRecursion (λ sent. IsLinkOf l.net sent.0 × FieldsAgree sent.1) (drop l.link-index l.msgs)
    × (IsNet l.initial.net → IsNet l.net)
