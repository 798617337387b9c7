use Rattle.std.proofs.Common.{◌≡◌, ℕ, List, Option, IfSome, insert, length, false, sym, ap, ◌∙◌, subst, arith}
use Rattle.mind_base.specs.Page.{PageView}
use Rattle.request_list.specs.Requests.{fetched_pages}
use Rattle.request_list.specs.Waiting.{requests_of}
use Rattle.request_list.specs.declared.requests.Request.{Request}
use Rattle.request_list.proofs.RequestFacts.{requests_of-set, started_pages, place_up_to}
use Rattle.request_list.proofs.waiting.start_at.Goals as goal

pub insert-requires : goal.insert-requires
insert-requires c = omega (arith, c.fetching_before-place.ensures, place_up_to (requests_of c.args.waiting.now.entries) c.args.at, ap length c.requires.pages, c.args.fetching.now.ok.0)

pub returns-clause-started : goal.returns-clause-started
returns-clause-started c = requests_of-set c.args.waiting.now.entries c.args.at c.index_mut.result.now c.index_mut.ensures.value

pub returns-clause-pages : goal.returns-clause-pages
returns-clause-pages c =
    let rs = requests_of c.args.waiting.now.entries in
    let r = c.request_at-page.result in
    let waits : r.fetching ≡ false = subst (λ (o : Option Request). IfSome o (λ q. q.fetching ≡ false)) c.request_at-page.ensures c.requires.waits in
    c.in_ok-insert.ensures.items
    ∙ ap (λ (ps : List PageView). insert ps c.fetching_before-place.result r.page) c.requires.pages
    ∙ ap (λ (n : ℕ). insert (fetched_pages rs) n r.page) c.fetching_before-place.ensures
    ∙ sym (started_pages rs c.args.at r c.request_at-page.ensures waits)
    ∙ sym (ap fetched_pages (requests_of-set c.args.waiting.now.entries c.args.at c.index_mut.result.now c.index_mut.ensures.value))
