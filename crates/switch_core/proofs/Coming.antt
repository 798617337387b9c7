-- Whether a blade has a request for a page, and whether the page is being fetched for it, by the request that is found.
use Rattle.std.proofs.Common.{◌≡◌, ◌↔◌, ℕ, Bool, true, false, cond, Some, None, List, [], ◌∷◌, refl, ap, sym, ◌∙◌, inl, inr, zero, suc, arith}
use Rattle.std.specs.Prelude.{All, Any, IsTrue, is_some}
use Rattle.std.specs.List.{find}
use Rattle.std.proofs.lemmas.Bool.{cases_Bool, false≢true}
use Rattle.mind_base.specs.Page.{PageView}
use Rattle.request_list.specs.Requests.{is_of, AskOncePerPage}
use Rattle.request_list.specs.declared.requests.Request.{Request}
use Rattle.switch_core.proofs.Answering.{IsFetched, fetched-found, found-fetched, some-is}

none-found : (p : Request → Bool) (rs : List Request) → All (λ r. p r ≡ false) rs → find p rs ≡ None
none-found p [] h = refl
none-found p (r ∷ rs) h =
    let head : p r ≡ false = h 0 r (omega arith) in
    ap (λ (b : Bool). cond b (Some r) (find p rs)) head ∙ none-found p rs (λ k d lt. h (suc k) d (omega arith))

fails-at : (p : Request → Bool) (r : Request) (rs : List Request) → find p (r ∷ rs) ≡ None → p r ≡ false
fails-at p r rs e =
    elim (cases_Bool (p r)) [
      | inl t ↦ (let clash : Some r ≡ None = sym (ap (λ (b : Bool). cond b (Some r) (find p rs)) t) ∙ e in absurd (cc))
      | inr f ↦ f
    ]

none-fits : (p : Request → Bool) (rs : List Request) → find p rs ≡ None → All (λ r. p r ≡ false) rs
none-fits p [] e k d lt = absurd (omega arith)
none-fits p (r ∷ rs) e zero d lt = fails-at p r rs e
none-fits p (r ∷ rs) e (suc k) d lt =
    none-fits p rs (sym (ap (λ (b : Bool). cond b (Some r) (find p rs)) (fails-at p r rs e)) ∙ e) k d (omega arith)

pub new-none : (p : Request → Bool) (rs : List Request) → find p rs ≡ None → IsTrue true ↔ All (λ r. p r ≡ false) rs
new-none p rs e = (λ t. none-fits p rs e, λ h. refl)

pub new-some : (p : Request → Bool) (rs : List Request) → is_some (find p rs) ≡ true → IsTrue false ↔ All (λ r. p r ≡ false) rs
new-some p rs t = (λ f. absurd (false≢true f), λ h. absurd (false≢true (sym (ap is_some (none-found p rs h)) ∙ t)))

fetched-any : (blade : ℕ) (page : PageView) (rs : List Request) (r : Request) → find (is_of blade page) rs ≡ Some r → r.fetching ≡ true → Any (IsFetched blade page) rs
fetched-any blade page [] r e f = absurd (cc)
fetched-any blade page (q ∷ rs) r e f =
    elim (cases_Bool (is_of blade page q)) [
      | inl t ↦
          (let here : Some q ≡ Some r = sym (ap (λ (b : Bool). cond b (Some q) (find (is_of blade page) rs)) t) ∙ e in
          (0, q, omega arith, refl, (t, ap (λ (y : Request). y.fetching) (some-is q r here) ∙ f)))
      | inr g ↦
          (let later : find (is_of blade page) rs ≡ Some r = sym (ap (λ (b : Bool). cond b (Some q) (find (is_of blade page) rs)) g) ∙ e in
          let rest = fetched-any blade page rs r later f in
          (suc rest.0, rest.1, omega (arith, rest.2), rest.3, rest.4))
    ]

pub fetching-some : (blade : ℕ) (page : PageView) (rs : List Request) (r : Request) → find (is_of blade page) rs ≡ Some r → AskOncePerPage rs → IsTrue r.fetching ↔ Any (IsFetched blade page) rs
fetching-some blade page rs r e apart = (λ t. fetched-any blade page rs r e t, λ any. found-fetched blade page rs r apart any e)

pub fetching-none : (blade : ℕ) (page : PageView) (rs : List Request) → find (is_of blade page) rs ≡ None → IsTrue false ↔ Any (IsFetched blade page) rs
fetching-none blade page rs e = (λ f. absurd (false≢true f), λ any. absurd (fetched-found blade page rs any e))
