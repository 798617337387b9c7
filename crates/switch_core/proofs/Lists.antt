-- What changes of lists keep of their elements, and of how many there are of a kind.
use Rattle.std.proofs.Common.{◌≡◌, ℕ, ◌+◌, ◌<◌, ◌≤◌, Bool, true, false, cond, not, ◌==◌, inl, inr, Option, Some, None, List, [], ◌∷◌, ◌++◌, length, filter, refl, ap, sym, subst, ◌∙◌, zero, suc, arith}
use Rattle.std.specs.List.{AllByRecursion, insert, remove, slice_get}
use Rattle.std.specs.Option.{is_none}
use Rattle.std.proofs.lemmas.Bool.{cases_Bool}
use Rattle.std.proofs.lemmas.Option.{none-some}
use Rattle.region_directory.specs.Entry.{changed_at, in_state, with_busy}
use Rattle.region_directory.specs.declared.entries.Busy.{Busy}
use Rattle.region_directory.specs.declared.entries.Entry.{Entry}
use Rattle.mind_base.specs.declared.notes.State.{State}
use Rattle.request_list.specs.Requests.{is_of, fetching_at}
use Rattle.request_list.specs.declared.requests.Request.{Request}
use Rattle.switch_core.specs.Sending.{is_under_way, under_way}
use Rattle.switch_core.specs.Standing.{waiting_in, idle_in}
use Rattle.switch_core.specs.Treating.{without_request}

some-same : {A : Type 0} (a b : A) → Some a ≡ Some b → a ≡ b
some-same a b e = (cc)

-- ---- what is true of each element

pub all-at : {A : Type 0} (P : A → Type 0) (xs : List A) (i : ℕ) (x : A) → AllByRecursion P xs → slice_get xs i ≡ Some x → P x
all-at P [] i x h e = absurd (none-some x e)
all-at P (y ∷ ys) zero x h e = subst P (some-same y x e) h.0
all-at P (y ∷ ys) (suc i) x h e = all-at P ys i x h.1 e

pub all-append : {A : Type 0} (P : A → Type 0) (xs ys : List A) → AllByRecursion P xs → AllByRecursion P ys → AllByRecursion P (xs ++ ys)
all-append P [] ys h k = k
all-append P (x ∷ xs) ys h k = (h.0, all-append P xs ys h.1 k)

pub all-insert : {A : Type 0} (P : A → Type 0) (xs : List A) (i : ℕ) (x : A) → AllByRecursion P xs → P x → AllByRecursion P (insert xs i x)
all-insert P [] zero x h p = (p, tt)
all-insert P [] (suc i) x h p = (p, tt)
all-insert P (y ∷ ys) zero x h p = (p, h)
all-insert P (y ∷ ys) (suc i) x h p = (h.0, all-insert P ys i x h.1 p)

pub all-remove : {A : Type 0} (P : A → Type 0) (xs : List A) (i : ℕ) → AllByRecursion P xs → AllByRecursion P (remove xs i)
all-remove P [] zero h = tt
all-remove P [] (suc i) h = tt
all-remove P (y ∷ ys) zero h = h.1
all-remove P (y ∷ ys) (suc i) h = (h.0, all-remove P ys i h.1)

pub all-filter : {A : Type 0} (P : A → Type 0) (p : A → Bool) (xs : List A) → AllByRecursion P xs → AllByRecursion P (filter p xs)
all-filter P p [] h = tt
all-filter P p (x ∷ xs) h =
    let chosen = λ (b : Bool). AllByRecursion P (cond b (x ∷ filter p xs) (filter p xs)) in
    elim (cases_Bool (p x)) [
      | inl t ↦ subst chosen (sym t) (h.0, all-filter P p xs h.1)
      | inr f ↦ subst chosen (sym f) (all-filter P p xs h.1)
    ]

pub all-changed : (P : Entry → Type 0) (i : ℕ) (change : Entry → Entry) (es : List Entry) (e : Entry) → slice_get es i ≡ Some e → AllByRecursion P es → P (change e) → AllByRecursion P (changed_at i change es)
all-changed P i change [] e s h p = tt
all-changed P zero change (x ∷ es) e s h p = (subst (λ y. P (change y)) (sym (some-same x e s)) p, h.1)
all-changed P (suc i) change (x ∷ es) e s h p = (h.0, all-changed P i change es e s h.1 p)

abbrev pub with_fetching : Request → Request
with_fetching r = record { blade = r.blade; page = r.page; write = r.write; fetching = true }

pub all-fetching : (P : Request → Type 0) (rs : List Request) (i : ℕ) (r : Request) → slice_get rs i ≡ Some r → AllByRecursion P rs → P (with_fetching r) → AllByRecursion P (fetching_at rs i)
all-fetching P [] i r s h p = tt
all-fetching P (x ∷ rs) zero r s h p = (subst (λ y. P (with_fetching y)) (sym (some-same x r s)) p, h.1)
all-fetching P (x ∷ rs) (suc i) r s h p = (h.0, all-fetching P rs i r s h.1 p)

-- ---- how many requests wait

waiting-here : (r : Request) (rs : List Request) → r.fetching ≡ false → waiting_in (r ∷ rs) ≡ 1 + waiting_in rs
waiting-here r rs f = ap (λ b. cond b 0 1 + waiting_in rs) f

pub waiting-fetching : (rs : List Request) (i : ℕ) (r : Request) → slice_get rs i ≡ Some r → r.fetching ≡ false → waiting_in rs ≡ waiting_in (fetching_at rs i) + 1
waiting-fetching [] i r s f = absurd (none-some r s)
waiting-fetching (x ∷ rs) zero r s f =
    let here : waiting_in (x ∷ rs) ≡ 1 + waiting_in rs = waiting-here x rs (ap (λ (q : Request). q.fetching) (some-same x r s) ∙ f) in
    omega (arith, here)
waiting-fetching (x ∷ rs) (suc i) r s f = omega (arith, waiting-fetching rs i r s f)

pub waiting-filter : (p : Request → Bool) (rs : List Request) → waiting_in (filter p rs) ≤ waiting_in rs
waiting-filter p [] = omega arith
waiting-filter p (x ∷ rs) =
    let chosen = λ (b : Bool). waiting_in (cond b (x ∷ filter p rs) (filter p rs)) ≤ waiting_in (x ∷ rs) in
    let rest : waiting_in (filter p rs) ≤ waiting_in rs = waiting-filter p rs in
    let more : waiting_in (x ∷ filter p rs) ≤ waiting_in (x ∷ rs) = omega (arith, rest) in
    let less : waiting_in (filter p rs) ≤ waiting_in (x ∷ rs) = omega (arith, rest) in
    elim (cases_Bool (p x)) [ inl t ↦ subst chosen (sym t) more | inr f ↦ subst chosen (sym f) less ]

pub waiting-dropped : (p : Request → Bool) (rs : List Request) (i : ℕ) (r : Request) → slice_get rs i ≡ Some r → r.fetching ≡ false → p r ≡ false → waiting_in (filter p rs) < waiting_in rs
waiting-dropped p [] i r s f out = absurd (none-some r s)
waiting-dropped p (x ∷ rs) zero r s f out =
    let same : x ≡ r = some-same x r s in
    let gone : p x ≡ false = ap p same ∙ out in
    let here : waiting_in (x ∷ rs) ≡ 1 + waiting_in rs = waiting-here x rs (ap (λ (q : Request). q.fetching) same ∙ f) in
    let chosen = λ (b : Bool). waiting_in (cond b (x ∷ filter p rs) (filter p rs)) < waiting_in (x ∷ rs) in
    let less : waiting_in (filter p rs) < waiting_in (x ∷ rs) = omega (arith, here, waiting-filter p rs) in
    subst chosen (sym gone) less
waiting-dropped p (x ∷ rs) (suc i) r s f out =
    let rest : waiting_in (filter p rs) < waiting_in rs = waiting-dropped p rs i r s f out in
    let chosen = λ (b : Bool). waiting_in (cond b (x ∷ filter p rs) (filter p rs)) < waiting_in (x ∷ rs) in
    let more : waiting_in (x ∷ filter p rs) < waiting_in (x ∷ rs) = omega (arith, rest) in
    let less : waiting_in (filter p rs) < waiting_in (x ∷ rs) = omega (arith, rest) in
    elim (cases_Bool (p x)) [ inl t ↦ subst chosen (sym t) more | inr g ↦ subst chosen (sym g) less ]

eq-self : (n : ℕ) → (n == n) ≡ true
eq-self n = grind arith

pub is_of-self : (r : Request) → is_of r.blade r.page r ≡ true
is_of-self r =
    let blade : (r.blade == r.blade) ≡ true = eq-self r.blade in
    let domain : (r.page.domain == r.page.domain) ≡ true = eq-self r.page.domain in
    let number : (r.page.number == r.page.number) ≡ true = eq-self r.page.number in
    grind arith

-- the request that ends waited
pub waiting-without : (rs : List Request) (i : ℕ) (r : Request) → slice_get rs i ≡ Some r → r.fetching ≡ false → waiting_in (without_request r rs) < waiting_in rs
waiting-without rs i r s f = waiting-dropped (λ q. not (is_of r.blade r.page q)) rs i r s f (ap not (is_of-self r))

-- ---- how many entries are idle, and how many have a transition

pub idle-state : (es : List Entry) (i : ℕ) (state : State) → idle_in (changed_at i (in_state state) es) ≡ idle_in es
idle-state [] i state = refl
idle-state (e ∷ es) zero state = refl
idle-state (e ∷ es) (suc i) state = omega (arith, idle-state es i state)

pub under-state : (es : List Entry) (i : ℕ) (state : State) → under_way (changed_at i (in_state state) es) ≡ under_way es
under-state [] i state = refl
under-state (e ∷ es) zero state = refl
under-state (e ∷ es) (suc i) state = omega (arith, under-state es i state)

idle-here : (e : Entry) (es : List Entry) → e.busy ≡ None → idle_in (e ∷ es) ≡ 1 + idle_in es
idle-here e es n = ap (λ (b : Option Busy). cond (is_none b) 1 0 + idle_in es) n

under-here : (e : Entry) (es : List Entry) → e.busy ≡ None → under_way (e ∷ es) ≡ under_way es
under-here e es n = ap (λ (b : Option Busy). is_under_way b + under_way es) n ∙ omega arith

pub idle-busy : (es : List Entry) (i : ℕ) (e : Entry) (busy : Busy) → slice_get es i ≡ Some e → e.busy ≡ None → idle_in es ≡ idle_in (changed_at i (with_busy (Some busy)) es) + 1
idle-busy [] i e busy s n = absurd (none-some e s)
idle-busy (x ∷ es) zero e busy s n =
    omega (arith, idle-here x es (ap (λ (y : Entry). y.busy) (some-same x e s) ∙ n))
idle-busy (x ∷ es) (suc i) e busy s n = omega (arith, idle-busy es i e busy s n)

pub under-busy : (es : List Entry) (i : ℕ) (e : Entry) (busy : Busy) → slice_get es i ≡ Some e → e.busy ≡ None → under_way (changed_at i (with_busy (Some busy)) es) ≡ under_way es + 1
under-busy [] i e busy s n = absurd (none-some e s)
under-busy (x ∷ es) zero e busy s n =
    omega (arith, under-here x es (ap (λ (y : Entry). y.busy) (some-same x e s) ∙ n))
under-busy (x ∷ es) (suc i) e busy s n = omega (arith, under-busy es i e busy s n)

pub idle-remove : (es : List Entry) (i : ℕ) (e : Entry) → slice_get es i ≡ Some e → e.busy ≡ None → idle_in es ≡ idle_in (remove es i) + 1
idle-remove [] i e s n = absurd (none-some e s)
idle-remove (x ∷ es) zero e s n =
    omega (arith, idle-here x es (ap (λ (y : Entry). y.busy) (some-same x e s) ∙ n))
idle-remove (x ∷ es) (suc i) e s n = omega (arith, idle-remove es i e s n)

pub under-remove : (es : List Entry) (i : ℕ) (e : Entry) → slice_get es i ≡ Some e → e.busy ≡ None → under_way (remove es i) ≡ under_way es
under-remove [] i e s n = absurd (none-some e s)
under-remove (x ∷ es) zero e s n =
    sym (under-here x es (ap (λ (y : Entry). y.busy) (some-same x e s) ∙ n))
under-remove (x ∷ es) (suc i) e s n = omega (arith, under-remove es i e s n)

pub idle-insert : (es : List Entry) (i : ℕ) (e : Entry) → e.busy ≡ None → idle_in (insert es i e) ≡ idle_in es + 1
idle-insert [] zero e n = omega (arith, idle-here e [] n)
idle-insert [] (suc i) e n = omega (arith, idle-here e [] n)
idle-insert (x ∷ es) zero e n = omega (arith, idle-here e (x ∷ es) n)
idle-insert (x ∷ es) (suc i) e n = omega (arith, idle-insert es i e n)

pub under-insert : (es : List Entry) (i : ℕ) (e : Entry) → e.busy ≡ None → under_way (insert es i e) ≡ under_way es
under-insert [] zero e n = under-here e [] n
under-insert [] (suc i) e n = under-here e [] n
under-insert (x ∷ es) zero e n = under-here e (x ∷ es) n
under-insert (x ∷ es) (suc i) e n = omega (arith, under-insert es i e n)

pub insert-at : (es : List Entry) (i : ℕ) (e : Entry) → i ≤ length es → slice_get (insert es i e) i ≡ Some e
insert-at [] zero e le = refl
insert-at [] (suc i) e le = absurd (omega arith)
insert-at (x ∷ es) zero e le = refl
insert-at (x ∷ es) (suc i) e le = insert-at es i e (omega arith)

pub under-le-length : (es : List Entry) → under_way es ≤ length es
under-le-length [] = omega arith
under-le-length (e ∷ es) =
    let one : (b : Option Busy) → is_under_way b ≤ 1 = λ b. elim b as (λ v. is_under_way v ≤ 1) [ None ↦ omega arith | Some x ↦ omega arith ] in
    omega (arith, one e.busy, under-le-length es)
