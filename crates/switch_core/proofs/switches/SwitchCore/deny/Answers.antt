use Rattle.std.proofs.Common.{List, length, sym, subst}
use Rattle.request_list.specs.declared.requests.Request.{Request}
use Rattle.switch_core.specs.Invariant.{IsFitRequest, IsSwitch}
use Rattle.switch_core.specs.Switch.{SwitchView}
use Rattle.switch_core.proofs.Lists.{all-filter}
use Rattle.switch_core.proofs.Safety.{switch-requests}
use Rattle.switch_core.proofs.switches.SwitchCore.deny.Goals as goal

pub invariant_of-self : goal.invariant_of-self
invariant_of-self c =
    let s : SwitchView = record { plan = c.self.inside.plan; table = c.self.inside.table; protect = c.self.inside.protect; directory = c.self.inside.directory; requests = c.self.inside.requests; last = c.self.inside.last } in
    subst (λ (rs : List Request). IsSwitch (record s { requests = rs })) (sym c.done-ended.ensures.left)
    (switch-requests s _ c.self.invariant (all-filter (IsFitRequest (length s.plan.frames)) _ s.requests c.self.invariant.requests))
