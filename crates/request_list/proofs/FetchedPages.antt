-- A page stands among the fetched ones exactly where a request that is fetching has it.
use Rattle.std.proofs.Common.{◌≡◌, zero, suc, ◌↔◌, ◌⊎◌, Bool, true, false, cond, List, [], ◌∷◌, Contains, Any, refl, sym, subst, inl, inr, arith}
use Rattle.mind_base.specs.Page.{PageView}
use Rattle.request_list.specs.Requests.{fetched_pages}
use Rattle.request_list.specs.declared.requests.Request.{Request}

abbrev Fetches : PageView → Request → Type 0
Fetches page r = (r.fetching ≡ true) × (r.page ≡ page)

any-there : (page : PageView) (r : Request) (rs : List Request) → Any (Fetches page) rs → Any (Fetches page) (r ∷ rs)
any-there page r rs h = (suc h.0, h.1, omega (arith, h.2), h.3, h.4)

any-cases : (page : PageView) (r : Request) (rs : List Request) → Any (Fetches page) (r ∷ rs) → Fetches page r ⊎ Any (Fetches page) rs
any-cases page r rs (zero, x, l, e, f) = inl (subst (Fetches page) (sym e) f)
any-cases page r rs (suc k, x, l, e, f) = inr (k, x, omega (arith, l), e, f)

contains-there : (p q : PageView) (ps : List PageView) → Contains ps q → Contains (p ∷ ps) q
contains-there p q ps h = (suc h.0, omega (arith, h.1), h.2)

contains-cases : (p q : PageView) (ps : List PageView) → Contains (p ∷ ps) q → (p ≡ q) ⊎ Contains ps q
contains-cases p q ps (zero, l, e) = inl e
contains-cases p q ps (suc k, l, e) = inr (k, omega (arith, l), e)

pages-cons : (r : Request) (rs : List Request) (b : Bool) → r.fetching ≡ b → fetched_pages (r ∷ rs) ≡ cond b (r.page ∷ fetched_pages rs) (fetched_pages rs)
pages-cons r rs true e = rw e refl
pages-cons r rs false e = rw e refl

pub fetches_from : (rs : List Request) (page : PageView) → Contains (fetched_pages rs) page → Any (Fetches page) rs
fetches_from [] page h = absurd (omega (arith, h.1))
fetches_from (r ∷ rs) page h = step r.fetching refl (fetches_from rs page) h where
  one : (k : Contains (fetched_pages rs) page → Any (Fetches page) rs) → r.fetching ≡ true → Contains (r.page ∷ fetched_pages rs) page → Any (Fetches page) (r ∷ rs)
  one k e c = elim (contains-cases r.page page (fetched_pages rs) c) [
    | inl same ↦ (0, r, omega arith, refl, (e, same))
    | inr rest ↦ any-there page r rs (k rest)
  ]

  step : (b : Bool) → r.fetching ≡ b → (Contains (fetched_pages rs) page → Any (Fetches page) rs) → Contains (fetched_pages (r ∷ rs)) page → Any (Fetches page) (r ∷ rs)
  step true e k c = one k e (subst (λ (ps : List PageView). Contains ps page) (pages-cons r rs true e) c)
  step false e k c = any-there page r rs (k (subst (λ (ps : List PageView). Contains ps page) (pages-cons r rs false e) c))

pub fetched_from : (rs : List Request) (page : PageView) → Any (Fetches page) rs → Contains (fetched_pages rs) page
fetched_from [] page h = absurd (omega (arith, h.2))
fetched_from (r ∷ rs) page h = step r.fetching refl (fetched_from rs page) (any-cases page r rs h) where
  more : (b : Bool) → r.fetching ≡ b → Contains (fetched_pages rs) page → Contains (fetched_pages (r ∷ rs)) page
  more true e c = subst (λ (ps : List PageView). Contains ps page) (sym (pages-cons r rs true e)) (contains-there r.page page (fetched_pages rs) c)
  more false e c = subst (λ (ps : List PageView). Contains ps page) (sym (pages-cons r rs false e)) c

  here : Fetches page r → Contains (fetched_pages (r ∷ rs)) page
  here f = subst (λ (ps : List PageView). Contains ps page) (sym (pages-cons r rs true f.0)) (0, omega arith, f.1)

  step : (b : Bool) → r.fetching ≡ b → (Any (Fetches page) rs → Contains (fetched_pages rs) page) → Fetches page r ⊎ Any (Fetches page) rs → Contains (fetched_pages (r ∷ rs)) page
  step b e k (inl f) = here f
  step b e k (inr a) = more b e (k a)

pub fetched_exactly : (rs : List Request) (page : PageView) → Contains (fetched_pages rs) page ↔ Any (λ r. (r.fetching ≡ true) × (r.page ≡ page)) rs
fetched_exactly rs page = (fetches_from rs page, fetched_from rs page)
