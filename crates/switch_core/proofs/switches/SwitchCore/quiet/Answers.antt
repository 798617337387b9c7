use Rattle.std.proofs.Common.{sym, subst, ◌∙◌}
use Rattle.switch_core.specs.Handling.{IsQuietSwitch}
use Rattle.switch_core.specs.Switch.{SwitchView}
use Rattle.switch_core.proofs.Answering.{none-length}
use Rattle.switch_core.proofs.switches.SwitchCore.quiet.Goals as goal

pub returns-then-len-eq0 : goal.returns-then-len-eq0
returns-then-len-eq0 c = (
  λ t. subst (λ (v : SwitchView). IsQuietSwitch v) c.self.view_is (record { requests = none-length c.self.inside.requests (sym c.len.ensures ∙ c.if-len-eq0.true); transitions = c.is_idle.ensures.0 t }),
  λ q. let inside : IsQuietSwitch (record { plan = c.self.inside.plan; table = c.self.inside.table; protect = c.self.inside.protect; directory = c.self.inside.directory; requests = c.self.inside.requests; last = c.self.inside.last }) = subst (λ (v : SwitchView). IsQuietSwitch v) (sym c.self.view_is) q in
      c.is_idle.ensures.1 inside.transitions,
)
