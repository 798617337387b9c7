use Rattle.std.proofs.Common.{ap, sym, subst, ◌∙◌}
use Rattle.std.specs.List.{find}
use Rattle.request_list.specs.Requests.{is_of, AskOncePerPage}
use Rattle.switch_core.specs.Switch.{SwitchView}
use Rattle.switch_core.proofs.Coming.{fetching-none, fetching-some}
use Rattle.switch_core.proofs.switches.SwitchCore.is_fetching.Goals as goal

pub returns-in-Some : goal.returns-in-Some
returns-in-Some c = fetching-some c.args.blade c.args.page c.args.self.now.requests c.in-Some.r
    (ap (λ (v : SwitchView). find (is_of c.args.blade c.args.page) v.requests) (sym c.self.view_is) ∙ sym c.in-Some.ensures.found)
    (subst (λ (v : SwitchView). AskOncePerPage v.requests) c.self.view_is c.in-Some.ensures.apart)

pub returns-in-None : goal.returns-in-None
returns-in-None c = fetching-none c.args.blade c.args.page c.args.self.now.requests
    (ap (λ (v : SwitchView). find (is_of c.args.blade c.args.page) v.requests) (sym c.self.view_is) ∙ sym c.in-None.ensures.found)
