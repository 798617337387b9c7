use Rattle.std.proofs.Common.{ap, sym, ◌∙◌}
use Rattle.std.specs.List.{find}
use Rattle.std.specs.Option.{is_some}
use Rattle.request_list.specs.Requests.{is_of}
use Rattle.switch_core.specs.Switch.{SwitchView}
use Rattle.switch_core.proofs.Coming.{new-none, new-some}
use Rattle.switch_core.proofs.switches.SwitchCore.is_new.Goals as goal

pub returns-in-Some : goal.returns-in-Some
returns-in-Some c = new-some (is_of c.args.blade c.args.page) c.args.self.now.requests
    (ap is_some (ap (λ (v : SwitchView). find (is_of c.args.blade c.args.page) v.requests) (sym c.self.view_is) ∙ sym c.in-Some.ensures.found))

pub returns-in-None : goal.returns-in-None
returns-in-None c = new-none (is_of c.args.blade c.args.page) c.args.self.now.requests
    (ap (λ (v : SwitchView). find (is_of c.args.blade c.args.page) v.requests) (sym c.self.view_is) ∙ sym c.in-None.ensures.found)
