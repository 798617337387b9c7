use Rattle.std.proofs.Common.{ℕ, Bool, List, take, remove, cond, length, sym, ap, ◌∙◌, arith}
use Rattle.mind_base.specs.Page.{PageView}
use Rattle.request_list.specs.Requests.{fetched_pages, fetching_in}
use Rattle.request_list.specs.Waiting.{requests_of}
use Rattle.request_list.proofs.RequestFacts.{requests_of-remove, removed_pages, place_below}
use Rattle.request_list.proofs.waiting.take_at.Goals as goal

pub remove-requires : goal.remove-requires
remove-requires c = omega (arith, c.fetching_before-place.ensures, place_below (requests_of c.args.waiting.now.entries) c.args.at c.request_at-request.result c.request_at-request.ensures c.if-request.true, ap length c.requires.pages, c.args.fetching.now.ok.0)

pub returns-then-request-clause-rest : goal.returns-then-request-clause-rest
returns-then-request-clause-rest c = ap requests_of c.shift_remove_index.ensures.entries ∙ requests_of-remove c.args.waiting.now.entries c.args.at

pub returns-else-request-clause-rest : goal.returns-else-request-clause-rest
returns-else-request-clause-rest c = ap requests_of c.shift_remove_index.ensures.entries ∙ requests_of-remove c.args.waiting.now.entries c.args.at

pub returns-then-request-clause-pages : goal.returns-then-request-clause-pages
returns-then-request-clause-pages c =
    let rs = requests_of c.args.waiting.now.entries in
    let gone = ap requests_of c.shift_remove_index.ensures.entries ∙ requests_of-remove c.args.waiting.now.entries c.args.at in
    c.remove.ensures.items
    ∙ ap (λ (ps : List PageView). remove ps c.fetching_before-place.result) c.requires.pages
    ∙ ap (λ (n : ℕ). remove (fetched_pages rs) n) c.fetching_before-place.ensures
    ∙ sym (ap (λ (b : Bool). cond b (remove (fetched_pages rs) (fetching_in (take c.args.at rs))) (fetched_pages rs)) c.if-request.true)
    ∙ sym (removed_pages rs c.args.at c.request_at-request.result c.request_at-request.ensures)
    ∙ sym (ap fetched_pages gone)

pub returns-else-request-clause-pages : goal.returns-else-request-clause-pages
returns-else-request-clause-pages c =
    let rs = requests_of c.args.waiting.now.entries in
    let gone = ap requests_of c.shift_remove_index.ensures.entries ∙ requests_of-remove c.args.waiting.now.entries c.args.at in
    c.requires.pages
    ∙ sym (ap (λ (b : Bool). cond b (remove (fetched_pages rs) (fetching_in (take c.args.at rs))) (fetched_pages rs)) c.if-request.false)
    ∙ sym (removed_pages rs c.args.at c.request_at-request.result c.request_at-request.ensures)
    ∙ sym (ap fetched_pages gone)
