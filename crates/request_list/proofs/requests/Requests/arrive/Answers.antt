use Rattle.std.proofs.Common.{◌≡◌, ◌∷◌, [], ◌++◌, false, length, refl, sym, ap, ◌∙◌, subst, arith, List}
use Rattle.std.proofs.lemmas.List.{map-append, length_push, length-map}
use Rattle.std.proofs.lemmas.List.Elements.{recursion_from_All}
use Rattle.request_list.specs.Requests.{is_of, AskOncePerPage, fetched_pages}
use Rattle.request_list.specs.Waiting.{request_of, requests_of}
use Rattle.request_list.specs.declared.requests.Request.{Request}
use Rattle.request_list.proofs.RequestFacts.{NoneOf, insert_entry-last, apart-push, fetched-push}
use Rattle.request_list.proofs.requests.Requests.arrive.Goals as goal

new_request : (c : goal.In_ok-insert) → Request
new_request c = record { blade = c.args.blade; page = c.args.page; write = c.args.write; fetching = false }

none : (c : goal.In_ok-insert) → NoneOf c.args.blade c.args.page (requests_of c.self.inside.waiting.entries)
none c = subst (NoneOf c.args.blade c.args.page) (sym c.self.view_is) (recursion_from_All (λ (r : Request). is_of c.args.blade c.args.page r ≡ false) c.args.self.now c.requires)

pushed : (c : goal.In_ok-insert) → requests_of c.insert.new.self.entries ≡ requests_of c.self.inside.waiting.entries ++ new_request c ∷ []
unfolding new_request
pushed c =
    ap requests_of (c.in_ok-insert.ensures.entries ∙ insert_entry-last _ (λ a b w. refl) c.self.inside.waiting.entries _ _ (none c))
    ∙ map-append request_of c.self.inside.waiting.entries _

pub returns-clause-ok : goal.returns-clause-ok
unfolding new_request
returns-clause-ok c = pushed c ∙ ap (λ (rs : List Request). rs ++ new_request c ∷ []) c.self.view_is

apart : (c : goal.In_ok-insert) → AskOncePerPage (requests_of c.insert.new.self.entries)
unfolding new_request
apart c = subst AskOncePerPage (sym (pushed c)) (apart-push (requests_of c.self.inside.waiting.entries) (new_request c) c.self.invariant.1 (none c))

pub returns-clause-apart : goal.returns-clause-apart
returns-clause-apart c = apart c

pub invariant_of-self-2 : goal.invariant_of-self-2
unfolding new_request
invariant_of-self-2 c = (
  c.self.invariant.0 ∙ sym (fetched-push (requests_of c.self.inside.waiting.entries) (new_request c) refl) ∙ ap fetched_pages (sym (pushed c)),
  apart c,
  omega (arith, ap length (pushed c), length_push (requests_of c.self.inside.waiting.entries) (new_request c), length-map c.self.inside.waiting.entries request_of, c.len.ensures.len, c.if-len-ge4294967295.false),
)
