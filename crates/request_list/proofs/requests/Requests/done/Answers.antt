use Rattle.std.proofs.Common.{◌≡◌, Bool, not, filter, length, refl, sym, ap, ◌∙◌, subst, arith}
use Rattle.std.specs.List.{find}
use Rattle.std.proofs.lemmas.List.Sums.{length-filter, count_by-le-length}
use Rattle.request_list.specs.Requests.{is_of, AskOncePerPage}
use Rattle.request_list.specs.Waiting.{requests_of}
use Rattle.request_list.specs.declared.requests.Request.{Request}
use Rattle.request_list.proofs.RequestFacts.{IsAt, IsNowhere, at_key, at_no_key, apart-filter}
use Rattle.request_list.proofs.requests.Requests.done.Goals as goal

nowhere : (c : goal.In_default) → IsNowhere c.args.blade c.args.page c.args.self.now
nowhere c = subst (IsNowhere c.args.blade c.args.page) c.self.view_is
    (at_no_key _ (λ a b w. refl) _ c.self.inside.waiting.entries c.in_default.ensures.index)

pub returns-in_default-clause-found : goal.returns-in_default-clause-found
returns-in_default-clause-found c = sym (nowhere c).found

pub returns-in_default-clause-left : goal.returns-in_default-clause-left
returns-in_default-clause-left c = sym (nowhere c).left

at_place : (c : goal.After-take_at-request) → IsAt c.args.blade c.args.page (requests_of c.self.inside.waiting.entries) c.in-Some.at
at_place c = at_key _ (λ a b w. refl) _ c.self.inside.waiting.entries c.in-Some.at c.self.invariant.1 c.in-Some.ensures.index

test : (c : goal.After-take_at-request) → Request → Bool
test c r = not (is_of c.args.blade c.args.page r)

gone : (c : goal.After-take_at-request) → requests_of c.take_at-request.new.waiting.entries ≡ filter (test c) (requests_of c.self.inside.waiting.entries)
unfolding test
gone c = c.take_at-request.ensures.rest ∙ sym (at_place c).left

apart : (c : goal.After-take_at-request) → AskOncePerPage (requests_of c.take_at-request.new.waiting.entries)
apart c = subst AskOncePerPage (sym (gone c)) (apart-filter (test c) (requests_of c.self.inside.waiting.entries) c.self.invariant.1)

pub invariant_of-self : goal.invariant_of-self
invariant_of-self c = (
  c.take_at-request.ensures.pages,
  apart c,
  omega (arith, c.self.invariant.2, ap length (gone c), length-filter (test c) (requests_of c.self.inside.waiting.entries), count_by-le-length (test c) (requests_of c.self.inside.waiting.entries)),
)

pub returns-clause-found : goal.returns-clause-found
returns-clause-found c =
    sym c.take_at-request.ensures.request ∙ sym (at_place c).found ∙ ap (find (is_of c.args.blade c.args.page)) c.self.view_is

pub returns-clause-left : goal.returns-clause-left
unfolding test
returns-clause-left c = gone c ∙ ap (filter (test c)) c.self.view_is

pub returns-clause-apart : goal.returns-clause-apart
returns-clause-apart c = apart c
