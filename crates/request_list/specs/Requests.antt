-- Requests in order of arrival.
use Rattle.std.specs.Prelude.{◌≡◌, ℕ, zero, suc, Bool, true, false, ◌&&◌, ◌==◌, List, [], ◌∷◌, map, filter, if◌then◌else◌}
use Rattle.std.specs.List.{AllByRecursion}
use Rattle.mind_base.specs.Page.{PageView}
use Rattle.request_list.specs.declared.requests.Request.{Request}

-- it is this blade's request for this page
abbrev pub is_of : ℕ → PageView → Request → Bool
is_of blade page r = blade == r.blade && (page.domain == r.page.domain && page.number == r.page.number)

-- no blade has two requests for one page
abbrev pub AskOncePerPage : List Request → Type 0
AskOncePerPage [] = Unit {0}
AskOncePerPage (r ∷ rs) = AllByRecursion (λ q. is_of r.blade r.page q ≡ false) rs × AskOncePerPage rs

-- the pages of the requests that are fetching, in order of arrival
abbrev pub fetched_pages : List Request → List PageView
fetched_pages requests = map (λ r. r.page) (filter (λ r. r.fetching) requests)

-- the requests, that at one place fetching
abbrev pub fetching_at : List Request → ℕ → List Request
fetching_at [] i = []
fetching_at (r ∷ rs) zero = record { blade = r.blade; page = r.page; write = r.write; fetching = true } ∷ rs
fetching_at (r ∷ rs) (suc i) = r ∷ fetching_at rs i

-- how many requests are fetching
abbrev pub fetching_in : List Request → ℕ
fetching_in [] = 0
fetching_in (r ∷ rs) = if r.fetching then suc (fetching_in rs) else fetching_in rs
