use Rattle.std.proofs.Common.{◌≡◌, ◌↔◌, List, Any, Contains, true, sym, ap, ◌∙◌, subst}
use Rattle.mind_base.specs.Page.{PageView}
use Rattle.request_list.specs.Requests.{fetched_pages}
use Rattle.request_list.proofs.FetchedPages.{fetched_exactly}
use Rattle.request_list.proofs.requests.Requests.fetching_pages.Goals as goal

pub returns-clause-exact : goal.returns-clause-exact
returns-clause-exact c = λ page.
    subst (λ (ps : List PageView). Contains ps page ↔ Any (λ r. (r.fetching ≡ true) × (r.page ≡ page)) c.args.self.now)
    (sym (c.as_slice.ensures.value ∙ c.self.invariant.0 ∙ ap fetched_pages c.self.view_is)) (fetched_exactly c.args.self.now page)
