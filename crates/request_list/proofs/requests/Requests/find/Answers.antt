use Rattle.std.proofs.Common.{refl, sym, ap, ◌∙◌, subst}
use Rattle.std.specs.List.{find}
use Rattle.request_list.specs.Requests.{is_of}
use Rattle.request_list.specs.Waiting.{requests_of}
use Rattle.request_list.proofs.RequestFacts.{IsAt, IsNowhere, at_key, at_no_key}
use Rattle.request_list.proofs.requests.Requests.find.Goals as goal

nowhere : (c : goal.In_default) → IsNowhere c.args.blade c.args.page c.args.self.now
nowhere c = subst (IsNowhere c.args.blade c.args.page) c.self.view_is
    (at_no_key _ (λ a b w. refl) _ c.self.inside.waiting.entries c.in_default.ensures.index)

pub returns-in_default-clause-found : goal.returns-in_default-clause-found
returns-in_default-clause-found c = sym (nowhere c).found

at_place : (c : goal.After-request_at-wanted) → IsAt c.args.blade c.args.page (requests_of c.self.inside.waiting.entries) c.in-Some.at
at_place c = at_key _ (λ a b w. refl) _ c.self.inside.waiting.entries c.in-Some.at c.self.invariant.1 c.in-Some.ensures.index

pub returns-clause-found : goal.returns-clause-found
returns-clause-found c =
    sym c.request_at-wanted.ensures ∙ sym (at_place c).found ∙ ap (find (is_of c.args.blade c.args.page)) c.self.view_is
