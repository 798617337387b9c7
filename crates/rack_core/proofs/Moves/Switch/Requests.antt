-- What is seen of the requests at the switch when one arrives, is fetching, or ends.
use Rattle.std.proofs.Common.{◌≡◌, refl, sym, ◌∙◌, ap, subst, ℕ, Bool, true, false, not, ◌==◌, List, [], ◌∷◌, ◌++◌, map, filter, zero, suc, Option, Some, None}
use Rattle.std.specs.Prelude.{if◌then◌else◌, slice_get, find, option_map}
use Rattle.std.specs.List.{AllByRecursion, list_any}
use Rattle.std.proofs.lemmas.Option.{none-some, same_Some}
use Rattle.std.proofs.lemmas.Bool.{eqb-true, eq-eqb, and_parts, and_from, false≢true, or_parts}
use Rattle.mind_base.specs.Page.{PageView}
use Rattle.mind_base.specs.Range.{RangeView, in_range}
use Rattle.page_cache.specs.PageCache.{same_page}
use Rattle.page_cache.proofs.Callers.{same_page-true, same_page-refl}
use Rattle.request_list.specs.Requests.{AskOncePerPage, is_of, fetching_at}
use Rattle.request_list.specs.declared.requests.Request.{Request}
use Rattle.switch_core.specs.Treating.{is_fetched, without_request}
use Rattle.switch_core.proofs.Callers.{all-at}
use Rattle.coherence.specs.Facts.{is_fetching}
use Rattle.coherence.specs.World.{Wanted, put_both}
use Rattle.rack_core.specs.Seen.{wanted_at}

abbrev pub wanted_of : Request → Wanted
wanted_of r = record { write = r.write; fetching = r.fetching }

-- the blade and page are those of the request
pub of-true : (blade : ℕ) (page : PageView) (r : Request) → is_of blade page r ≡ true → (blade ≡ r.blade) × (page ≡ r.page)
of-true blade page r t = let parts = and_parts (blade == r.blade) (same_page page r.page) t in (eqb-true blade r.blade parts.0, same_page-true page r.page parts.1)

pub of-own : (r : Request) → is_of r.blade r.page r ≡ true
of-own r = and_from (r.blade == r.blade) (same_page r.page r.page) (eq-eqb r.blade r.blade refl) (same_page-refl r.page)

-- requests that are apart are not both a blade's for a page
pub not_two : (blade : ℕ) (page : PageView) (r q : Request) → is_of r.blade r.page q ≡ false → is_of blade page r ≡ true → is_of blade page q ≡ true → ⊥
not_two blade page r q apart s t =
    let same = of-true blade page r s in
    false≢true (sym apart ∙ subst (λ b. is_of b r.page q ≡ true) same.0 (subst (λ p. is_of blade p q ≡ true) same.1 t))

-- a request that is found
pub found-of : (blade : ℕ) (page : PageView) (rs : List Request) (r : Request) → find (is_of blade page) rs ≡ Some r → (blade ≡ r.blade) × (page ≡ r.page)
found-of blade page [] r e = absurd (none-some r e)
found-of blade page (q ∷ rs) r e = by (is_of blade page q) refl (λ k. found-of blade page rs r k) e where
  by : (b : Bool) → is_of blade page q ≡ b → (find (is_of blade page) rs ≡ Some r → (blade ≡ r.blade) × (page ≡ r.page))
      → (if b then Some q else find (is_of blade page) rs) ≡ Some r → (blade ≡ r.blade) × (page ≡ r.page)
  by true t rest f = let same = same_Some q r f in subst (λ x. (blade ≡ x.blade) × (page ≡ x.page)) same (of-true blade page q t)
  by false t rest f = rest f

pub found-got : (rs : List Request) (i : ℕ) (r : Request) → AskOncePerPage rs → slice_get rs i ≡ Some r → find (is_of r.blade r.page) rs ≡ Some r
found-got [] i r h e = absurd (none-some r e)
found-got (q ∷ rs) zero r h e =
    let same = same_Some q r e in
    ap (λ b. if b then Some q else find (is_of r.blade r.page) rs) (subst (λ x. is_of x.blade x.page q ≡ true) same (of-own q)) ∙ ap Some same
found-got (q ∷ rs) (suc i) r h e = by (is_of r.blade r.page q) refl (found-got rs i r h.1 e) where
  by : (b : Bool) → is_of r.blade r.page q ≡ b → find (is_of r.blade r.page) rs ≡ Some r → (if b then Some q else find (is_of r.blade r.page) rs) ≡ Some r
  by true t rest = absurd (not_two r.blade r.page q r (all-at (λ x. is_of q.blade q.page x ≡ false) rs i r h.0 e) t (of-own r))
  by false t rest = rest

pub wanted-got : (rs : List Request) (i : ℕ) (r : Request) → AskOncePerPage rs → slice_get rs i ≡ Some r → wanted_at rs r.blade r.page ≡ Some (wanted_of r)
wanted-got rs i r h e = ap (option_map wanted_of) (found-got rs i r h e)

-- where nothing is wanted there is no request
pub unwanted-none : (rs : List Request) (blade : ℕ) (page : PageView) → wanted_at rs blade page ≡ None → AllByRecursion (λ q. is_of blade page q ≡ false) rs
unwanted-none [] blade page e = tt
unwanted-none (q ∷ rs) blade page e = by (is_of blade page q) refl (λ k. unwanted-none rs blade page k) e where
  by : (b : Bool) → is_of blade page q ≡ b → (wanted_at rs blade page ≡ None → AllByRecursion (λ x. is_of blade page x ≡ false) rs)
      → option_map wanted_of (if b then Some q else find (is_of blade page) rs) ≡ None
      → (is_of blade page q ≡ false) × AllByRecursion (λ x. is_of blade page x ≡ false) rs
  by true t rest f = absurd (none-some (wanted_of q) (sym f))
  by false t rest f = (t, rest f)

-- a request arrives
pub wanted-last : (rs : List Request) (q : Request) (blade : ℕ) (page : PageView) → AllByRecursion (λ r. is_of q.blade q.page r ≡ false) rs
    → wanted_at (rs ++ q ∷ []) blade page ≡ put_both q.blade q.page (Some (wanted_of q)) (wanted_at rs) blade page
wanted-last [] q blade page none = by (is_of blade page q) where
  by : (b : Bool) → option_map wanted_of (if b then Some q else None) ≡ (if b then Some (wanted_of q) else None)
  by true = refl
  by false = refl
wanted-last (r ∷ rs) q blade page none = by (is_of blade page r) (is_of blade page q) refl refl (wanted-last rs q blade page none.1) where
  by : (b c : Bool) → is_of blade page r ≡ b → is_of blade page q ≡ c
      → option_map wanted_of (find (is_of blade page) (rs ++ q ∷ [])) ≡ (if c then Some (wanted_of q) else option_map wanted_of (find (is_of blade page) rs))
      → option_map wanted_of (if b then Some r else find (is_of blade page) (rs ++ q ∷ [])) ≡ (if c then Some (wanted_of q) else option_map wanted_of (if b then Some r else find (is_of blade page) rs))
  by true true s t rest = absurd (not_two blade page q r none.0 t s)
  by true false s t rest = refl
  by false c s t rest = rest

-- a request becomes one that is fetching
abbrev pub fetched_of : Request → Wanted
fetched_of r = record { write = r.write; fetching = true }

abbrev fetching_request : Request → Request
fetching_request q = record { blade = q.blade; page = q.page; write = q.write; fetching = true }

pub wanted-fetching : (rs : List Request) (i : ℕ) (r : Request) (blade : ℕ) (page : PageView) → AskOncePerPage rs → slice_get rs i ≡ Some r
    → wanted_at (fetching_at rs i) blade page ≡ put_both r.blade r.page (Some (fetched_of r)) (wanted_at rs) blade page
wanted-fetching [] i r blade page h e = absurd (none-some r e)
wanted-fetching (q ∷ rs) zero r blade page h e =
    subst (λ x. wanted_at (fetching_at (q ∷ rs) 0) blade page ≡ put_both x.blade x.page (Some (fetched_of x)) (wanted_at (q ∷ rs)) blade page) (same_Some q r e)
    (by (is_of blade page q)) where
      by : (b : Bool) → option_map wanted_of (if b then Some (fetching_request q) else find (is_of blade page) rs) ≡ (if b then Some (fetched_of q) else option_map wanted_of (if b then Some q else find (is_of blade page) rs))
      by true = refl
      by false = refl
wanted-fetching (q ∷ rs) (suc i) r blade page h e = by (is_of blade page q) (is_of blade page r) refl refl (wanted-fetching rs i r blade page h.1 e) where
  by : (b c : Bool) → is_of blade page q ≡ b → is_of blade page r ≡ c
      → option_map wanted_of (find (is_of blade page) (fetching_at rs i)) ≡ (if c then Some (fetched_of r) else option_map wanted_of (find (is_of blade page) rs))
      → option_map wanted_of (if b then Some q else find (is_of blade page) (fetching_at rs i)) ≡ (if c then Some (fetched_of r) else option_map wanted_of (if b then Some q else find (is_of blade page) rs))
  by true true s t rest = absurd (not_two blade page q r (all-at (λ x. is_of q.blade q.page x ≡ false) rs i r h.0 e) s t)
  by true false s t rest = refl
  by false c s t rest = rest

-- a request ends
pub wanted-without : (rs : List Request) (r : Request) (blade : ℕ) (page : PageView)
    → wanted_at (without_request r rs) blade page ≡ put_both r.blade r.page None (wanted_at rs) blade page
wanted-without [] r blade page = by (is_of blade page r) where
  by : (b : Bool) → ◌≡◌ {A = Option Wanted} None (if b then None else None)
  by true = refl
  by false = refl
wanted-without (q ∷ rs) r blade page = by (is_of r.blade r.page q) (is_of blade page q) (is_of blade page r) refl refl refl (wanted-without rs r blade page) where
  other : is_of r.blade r.page q ≡ true → is_of blade page q ≡ true → is_of blade page r ≡ false → ⊥
  other s t u = let a = of-true r.blade r.page q s in let b = of-true blade page q t in
      false≢true (sym u ∙ subst (λ n. is_of n page r ≡ true) (a.0 ∙ sym b.0) (subst (λ p. is_of r.blade p r ≡ true) (a.1 ∙ sym b.1) (of-own r)))

  same : is_of r.blade r.page q ≡ false → is_of blade page q ≡ true → is_of blade page r ≡ true → ⊥
  same s t u = not_two blade page r q s u t

  by : (a b c : Bool) → is_of r.blade r.page q ≡ a → is_of blade page q ≡ b → is_of blade page r ≡ c
      → option_map wanted_of (find (is_of blade page) (without_request r rs)) ≡ (if c then None else option_map wanted_of (find (is_of blade page) rs))
      → option_map wanted_of (find (is_of blade page) (if not a then q ∷ without_request r rs else without_request r rs)) ≡ (if c then None else option_map wanted_of (if b then Some q else find (is_of blade page) rs))
  by true true false s t u rest = absurd (other s t u)
  by true true true s t u rest = rest
  by true false c s t u rest = rest
  by false true true s t u rest = absurd (same s t u)
  by false true false s t u rest = ap (λ x. option_map wanted_of (if x then Some q else find (is_of blade page) (without_request r rs))) t
  by false false c s t u rest = ap (λ x. option_map wanted_of (if x then Some q else find (is_of blade page) (without_request r rs))) t ∙ rest

-- where no page of a block is fetched, no request for one of its pages is fetching
pub unfetched : (range : RangeView) (rs : List Request) (blade : ℕ) (page : PageView) → is_fetched range rs ≡ false → in_range range page ≡ true → is_fetching (wanted_at rs blade page) ≡ false
unfetched range [] blade page e t = refl
unfetched range (q ∷ rs) blade page e t = by q.fetching (is_of blade page q) refl refl (λ k. unfetched range rs blade page k t) e where
  by : (a b : Bool) → q.fetching ≡ a → is_of blade page q ≡ b → (is_fetched range rs ≡ false → is_fetching (wanted_at rs blade page) ≡ false)
      → list_any (in_range range) (map (λ r. r.page) (if a then q ∷ filter (λ r. r.fetching) rs else filter (λ r. r.fetching) rs)) ≡ false
      → is_fetching (option_map wanted_of (if b then Some q else find (is_of blade page) rs)) ≡ false
  by a false f u rest k = rest (weaker a k) where
    weaker : (a : Bool) → list_any (in_range range) (map (λ r. r.page) (if a then q ∷ filter (λ r. r.fetching) rs else filter (λ r. r.fetching) rs)) ≡ false → is_fetched range rs ≡ false
    weaker true k = (or_parts (in_range range q.page) (is_fetched range rs) k).1
    weaker false k = k
  by true true f u rest k = absurd (false≢true (sym (or_parts (in_range range q.page) (is_fetched range rs) k).0 ∙ subst (λ p. in_range range p ≡ true) (of-true blade page q u).1 t))
  by false true f u rest k = f
