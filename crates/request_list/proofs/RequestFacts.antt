-- What arriving, starting and ending do to a list of requests and to the pages that are fetched.
use Rattle.std.proofs.Common.{◌≡◌, ℕ, zero, suc, ◌+◌, ◌<◌, ◌≤◌, Bool, true, false, not, cond, List, [], ◌∷◌, ◌++◌, length, take, drop, get_or, map, filter, insert, remove, refl, sym, ap, ◌∙◌, subst, arith, Some, None, nat_lt, inl, inr}
use Rattle.std.specs.List.{AllByRecursion, find, position, position_or_len, slice_get}
use Rattle.std.proofs.lemmas.List.{map-append, take_more, take-map, drop-map, length-map}
use Rattle.std.proofs.lemmas.List.Elements.{All-filter, All-from_recursion, recursion_from_All}
use Rattle.std.proofs.lemmas.Option.{none-some, same_Some, slice_get_within, get_or_from_slice_get, cond_some}
use Rattle.std.proofs.lemmas.Bool.{cases_lt}
use Rattle.std.proofs.lemmas.Bool.Decides.{nat_tests}
use Rattle.mind_base.specs.Page.{PageView}
use Rattle.indexmap.specs.IndexMap.{insert_entry}
use Rattle.indexmap.specs.Layout.{set_value_at}
use Rattle.request_list.specs.Requests.{is_of, AskOncePerPage, fetched_pages, fetching_at, fetching_in}
use Rattle.request_list.specs.Waiting.{request_of, requests_of}
use Rattle.request_list.specs.declared.requests.Request.{Request}
use Rattle.request_list.specs.declared.waiting.Wanted.{Wanted}
use Rattle.request_list.specs.declared.waiting.Access.{Access}

-- none of the requests is this blade's for this page
abbrev pub NoneOf : ℕ → PageView → List Request → Type 0
NoneOf blade page rs = AllByRecursion (λ r. is_of blade page r ≡ false) rs

-- the keys' test is that of the requests
abbrev pub Tests : (Wanted → Wanted → Bool) → Type 0
Tests eq = (a b : Wanted) (w : Access) → eq a b ≡ is_of a.blade a.page (request_of (b, w))

pub insert_entry-last : (eq : Wanted → Wanted → Bool) → Tests eq → (es : List (Wanted × Access)) (k : Wanted) (v : Access) → NoneOf k.blade k.page (requests_of es) →
    insert_entry eq es k v ≡ es ++ (k, v) ∷ []
insert_entry-last eq same [] k v none = refl
insert_entry-last eq same (e ∷ es) k v none =
    ap (λ (b : Bool). let xs : List (Wanted × Access) = cond b ((e.0, v) ∷ es) (e ∷ insert_entry eq es k v) in xs) (same k e.0 e.1 ∙ none.0)
    ∙ ap (λ (xs : List (Wanted × Access)). e ∷ xs) (insert_entry-last eq same es k v none.1)

is_of-flip : (a b : Request) → is_of a.blade a.page b ≡ false → is_of b.blade b.page a ≡ false
is_of-flip a b h = grind (arith, nat_tests)

all-push : (P : Request → Type 0) (rs : List Request) (q : Request) → AllByRecursion P rs → P q → AllByRecursion P (rs ++ q ∷ [])
all-push P [] q h p = (p, tt)
all-push P (r ∷ rs) q h p = (h.0, all-push P rs q h.1 p)

pub apart-push : (rs : List Request) (q : Request) → AskOncePerPage rs → NoneOf q.blade q.page rs → AskOncePerPage (rs ++ q ∷ [])
apart-push [] q apart none = (tt, tt)
apart-push (r ∷ rs) q apart none = (all-push (λ p. is_of r.blade r.page p ≡ false) rs q apart.0 (is_of-flip q r none.0), apart-push rs q apart.1 none.1)

kept : (r : Request) (rs : List Request) (ps : List PageView) (b : Bool) → r.fetching ≡ b → fetched_pages rs ≡ ps → fetched_pages (r ∷ rs) ≡ cond b (r.page ∷ ps) ps
kept r rs ps true e h = rw e (ap (λ (xs : List PageView). r.page ∷ xs) h)
kept r rs ps false e h = rw e h

pub fetched-push : (rs : List Request) (q : Request) → q.fetching ≡ false → fetched_pages (rs ++ q ∷ []) ≡ fetched_pages rs
fetched-push [] q e = kept q [] [] false e refl
fetched-push (r ∷ rs) q e = kept r (rs ++ q ∷ []) (fetched_pages rs) r.fetching refl (fetched-push rs q e) ∙ sym (kept r rs (fetched_pages rs) r.fetching refl refl)

-- starting a request puts its page behind those of the earlier ones that are fetching
insert-first : (p q : PageView) (ps : List PageView) (n : ℕ) → insert (p ∷ ps) (suc n) q ≡ p ∷ insert ps n q
insert-first p q ps n = refl

insert-cases : (r : Request) (rs : List Request) (n : ℕ) (q : PageView) (b : Bool) → r.fetching ≡ b →
    cond b (r.page ∷ insert (fetched_pages rs) n q) (insert (fetched_pages rs) n q) ≡ insert (fetched_pages (r ∷ rs)) (cond b (suc n) n) q
insert-cases r rs n q true e = ap (λ (ps : List PageView). insert ps (suc n) q) (sym (kept r rs (fetched_pages rs) true e refl))
insert-cases r rs n q false e = ap (λ (ps : List PageView). insert ps n q) (sym (kept r rs (fetched_pages rs) false e refl))

pub fetched-fetching_at : (rs : List Request) (i : ℕ) (d : Request) → i < length rs → (get_or rs i d).fetching ≡ false →
    fetched_pages (fetching_at rs i) ≡ insert (fetched_pages rs) (fetching_in (take i rs)) (get_or rs i d).page
fetched-fetching_at [] i d l e = absurd (omega (arith, l))
fetched-fetching_at (r ∷ rs) zero d l e = ap (λ (ps : List PageView). r.page ∷ ps) (sym (kept r rs (fetched_pages rs) false e refl))
fetched-fetching_at (r ∷ rs) (suc i) d l e =
    kept r (fetching_at rs i) _ r.fetching refl (fetched-fetching_at rs i d (omega (arith, l)) e)
    ∙ insert-cases r rs (fetching_in (take i rs)) (get_or rs i d).page r.fetching refl

all-fetching_at : (blade : ℕ) (page : PageView) (rs : List Request) (i : ℕ) → NoneOf blade page rs → NoneOf blade page (fetching_at rs i)
all-fetching_at blade page [] i h = tt
all-fetching_at blade page (r ∷ rs) zero h = h
all-fetching_at blade page (r ∷ rs) (suc i) h = (h.0, all-fetching_at blade page rs i h.1)

pub apart-fetching_at : (rs : List Request) (i : ℕ) → AskOncePerPage rs → AskOncePerPage (fetching_at rs i)
apart-fetching_at [] i h = tt
apart-fetching_at (r ∷ rs) zero h = h
apart-fetching_at (r ∷ rs) (suc i) h = (all-fetching_at r.blade r.page rs i h.0, apart-fetching_at rs i h.1)

pub length-fetching_at : (rs : List Request) (i : ℕ) → length (fetching_at rs i) ≡ length rs
length-fetching_at [] i = refl
length-fetching_at (r ∷ rs) zero = refl
length-fetching_at (r ∷ rs) (suc i) = ap suc (length-fetching_at rs i)

pub requests_of-set : (es : List (Wanted × Access)) (i : ℕ) (w : Access) → slice_get (map (λ e. e.1) es) i ≡ Some w →
    requests_of (set_value_at es i (record { write = w.write; fetching = true })) ≡ fetching_at (requests_of es) i
requests_of-set [] i w e = absurd (none-some w e)
requests_of-set (x ∷ es) zero w e =
    ap (λ (b : Bool). let r : Request = record { blade = x.0.blade; page = x.0.page; write = b; fetching = true } in r ∷ requests_of es) (ap (λ (a : Access). a.write) (sym (same_Some x.1 w e)))
requests_of-set (x ∷ es) (suc i) w e = ap (λ (rs : List Request). request_of x ∷ rs) (requests_of-set es i w e)

-- a request that ends takes its page along
remove-cases : (r : Request) (rs : List Request) (n : ℕ) (b c : Bool) → r.fetching ≡ b →
    cond b (r.page ∷ cond c (remove (fetched_pages rs) n) (fetched_pages rs)) (cond c (remove (fetched_pages rs) n) (fetched_pages rs))
    ≡ cond c (remove (fetched_pages (r ∷ rs)) (cond b (suc n) n)) (fetched_pages (r ∷ rs))
remove-cases r rs n true true e = ap (λ (ps : List PageView). remove ps (suc n)) (sym (kept r rs (fetched_pages rs) true e refl))
remove-cases r rs n true false e = sym (kept r rs (fetched_pages rs) true e refl)
remove-cases r rs n false true e = ap (λ (ps : List PageView). remove ps n) (sym (kept r rs (fetched_pages rs) false e refl))
remove-cases r rs n false false e = sym (kept r rs (fetched_pages rs) false e refl)

first-removed : (r : Request) (rs : List Request) (b : Bool) → r.fetching ≡ b → fetched_pages rs ≡ cond b (remove (fetched_pages (r ∷ rs)) 0) (fetched_pages (r ∷ rs))
first-removed r rs true e = ap (λ (ps : List PageView). remove ps 0) (sym (kept r rs (fetched_pages rs) true e refl))
first-removed r rs false e = sym (kept r rs (fetched_pages rs) false e refl)

pub fetched-remove : (rs : List Request) (i : ℕ) (d : Request) → i < length rs →
    fetched_pages (remove rs i) ≡ cond (get_or rs i d).fetching (remove (fetched_pages rs) (fetching_in (take i rs))) (fetched_pages rs)
fetched-remove [] i d l = absurd (omega (arith, l))
fetched-remove (r ∷ rs) zero d l = first-removed r rs r.fetching refl
fetched-remove (r ∷ rs) (suc i) d l =
    kept r (remove rs i) _ r.fetching refl (fetched-remove rs i d (omega (arith, l)))
    ∙ remove-cases r rs (fetching_in (take i rs)) r.fetching (get_or rs i d).fetching refl

-- among the fetched pages stands that of a request that is fetching
room-cases : (r : Request) (rs : List Request) (n : ℕ) (b : Bool) → r.fetching ≡ b → n < length (fetched_pages rs) → cond b (suc n) n < length (fetched_pages (r ∷ rs))
room-cases r rs n true e l = omega (arith, ap length (kept r rs (fetched_pages rs) true e refl))
room-cases r rs n false e l = omega (arith, ap length (kept r rs (fetched_pages rs) false e refl))

pub place_within : (rs : List Request) (i : ℕ) (d : Request) → i < length rs → (get_or rs i d).fetching ≡ true → fetching_in (take i rs) < length (fetched_pages rs)
place_within [] i d l e = absurd (omega (arith, l))
place_within (r ∷ rs) zero d l e = omega (arith, ap length (kept r rs (fetched_pages rs) true e refl))
place_within (r ∷ rs) (suc i) d l e = room-cases r rs (fetching_in (take i rs)) r.fetching refl (place_within rs i d (omega (arith, l)) e)

room-up_to : (r : Request) (rs : List Request) (n : ℕ) (b : Bool) → r.fetching ≡ b → n ≤ length (fetched_pages rs) → cond b (suc n) n ≤ length (fetched_pages (r ∷ rs))
room-up_to r rs n true e l = omega (arith, ap length (kept r rs (fetched_pages rs) true e refl))
room-up_to r rs n false e l = omega (arith, ap length (kept r rs (fetched_pages rs) false e refl))

pub place_up_to : (rs : List Request) (i : ℕ) → fetching_in (take i rs) ≤ length (fetched_pages rs)
place_up_to rs zero = omega arith
place_up_to [] (suc i) = omega arith
place_up_to (r ∷ rs) (suc i) = room-up_to r rs (fetching_in (take i rs)) r.fetching refl (place_up_to rs i)

pub fetching_in-push : (rs : List Request) (q : Request) → fetching_in (rs ++ q ∷ []) ≡ fetching_in rs + cond q.fetching 1 0
fetching_in-push [] q = one q.fetching where
  one : (b : Bool) → cond b 1 0 ≡ 0 + cond b 1 0
  one true = refl
  one false = refl
fetching_in-push (r ∷ rs) q = step r.fetching (fetching_in (rs ++ q ∷ [])) (fetching_in rs) (cond q.fetching 1 0) (fetching_in-push rs q) where
  step : (b : Bool) (m n k : ℕ) → m ≡ n + k → cond b (suc m) m ≡ cond b (suc n) n + k
  step true m n k e = omega arith
  step false m n k e = e

-- where none of the requests is the blade's for the page, leaving it out leaves all
pub filter-none : (blade : ℕ) (page : PageView) (rs : List Request) → NoneOf blade page rs → filter (λ r. not (is_of blade page r)) rs ≡ rs
filter-none blade page [] h = refl
filter-none blade page (r ∷ rs) h = rw (h.0) (ap (λ (xs : List Request). r ∷ xs) (filter-none blade page rs h.1))

is_of-same : (blade : ℕ) (page : PageView) (r q : Request) → is_of blade page r ≡ true → is_of r.blade r.page q ≡ false → is_of blade page q ≡ false
is_of-same blade page r q h k = grind (arith, nat_tests)

none-behind : (blade : ℕ) (page : PageView) (r : Request) (rs : List Request) → is_of blade page r ≡ true → NoneOf r.blade r.page rs → NoneOf blade page rs
none-behind blade page r [] h all = tt
none-behind blade page r (q ∷ rs) h all = (is_of-same blade page r q h all.0, none-behind blade page r rs h all.1)

-- the one request of the blade for the page, at this place
pub record IsAt (blade : ℕ) (page : PageView) (rs : List Request) (n : ℕ) : Type 0 where
  pub found : find (is_of blade page) rs ≡ slice_get rs n
  pub left : filter (λ r. not (is_of blade page r)) rs ≡ remove rs n

at_first : (blade : ℕ) (page : PageView) (r : Request) (rs : List Request) → is_of blade page r ≡ true → NoneOf r.blade r.page rs → IsAt blade page (r ∷ rs) 0
at_first blade page r rs h all = record {
  found = rw h refl;
  left = rw h (filter-none blade page rs (none-behind blade page r rs h all));
}

at_later : (blade : ℕ) (page : PageView) (r : Request) (rs : List Request) (n : ℕ) → is_of blade page r ≡ false → IsAt blade page rs n → IsAt blade page (r ∷ rs) (suc n)
at_later blade page r rs n h at = record {
  found = rw h at.found;
  left = rw h (ap (λ (xs : List Request). r ∷ xs) at.left);
}

pub is_at : (blade : ℕ) (page : PageView) (rs : List Request) (n : ℕ) → AskOncePerPage rs → n ≡ position_or_len (is_of blade page) rs → n < length rs → IsAt blade page rs n
is_at blade page [] n apart e l = absurd (omega (arith, l))
is_at blade page (r ∷ rs) n apart e l = step (is_of blade page r) refl n (λ m. is_at blade page rs m apart.1) e l where
  step : (b : Bool) → is_of blade page r ≡ b → (k : ℕ) → ((m : ℕ) → m ≡ position_or_len (is_of blade page) rs → m < length rs → IsAt blade page rs m) →
      k ≡ cond (not (is_of blade page r)) (1 + position_or_len (is_of blade page) rs) 0 → k < suc (length rs) → IsAt blade page (r ∷ rs) k
  step true h k rest f m = let z : k ≡ 0 = rw h at f in subst (IsAt blade page (r ∷ rs)) (sym z) (at_first blade page r rs h apart.0)
  step false h zero rest f m = let z : 0 ≡ 1 + position_or_len (is_of blade page) rs = rw h at f in absurd (omega arith)
  step false h (suc k) rest f m = let z : suc k ≡ 1 + position_or_len (is_of blade page) rs = rw h at f in at_later blade page r rs k h (rest k (omega arith) (omega arith))

pub record IsNowhere (blade : ℕ) (page : PageView) (rs : List Request) : Type 0 where
  pub found : find (is_of blade page) rs ≡ None
  pub left : filter (λ r. not (is_of blade page r)) rs ≡ rs

pub is_nowhere : (blade : ℕ) (page : PageView) (rs : List Request) → length rs ≤ position_or_len (is_of blade page) rs → IsNowhere blade page rs
is_nowhere blade page [] l = record { found = refl; left = refl }
is_nowhere blade page (r ∷ rs) l = step (is_of blade page r) refl (λ k. is_nowhere blade page rs k) l where
  step : (b : Bool) → is_of blade page r ≡ b → (length rs ≤ position_or_len (is_of blade page) rs → IsNowhere blade page rs) →
      suc (length rs) ≤ cond (not (is_of blade page r)) (1 + position_or_len (is_of blade page) rs) 0 → IsNowhere blade page (r ∷ rs)
  step true h rest f = let z : suc (length rs) ≤ 0 = rw h at f in absurd (omega arith)
  step false h rest f = let z : suc (length rs) ≤ 1 + position_or_len (is_of blade page) rs = rw h at f in
      let n = rest (omega arith) in record { found = rw h n.found; left = rw h (ap (λ (xs : List Request). r ∷ xs) n.left) }

-- the place of a key among the keys is that of its request among the requests
pub position-requests_of : (eq : Wanted → Wanted → Bool) → Tests eq → (k : Wanted) (es : List (Wanted × Access)) → position_or_len (eq k) (map (λ e. e.0) es) ≡ position_or_len (is_of k.blade k.page) (requests_of es)
position-requests_of eq same k [] = refl
position-requests_of eq same k (e ∷ es) =
    ap (λ (b : Bool). cond (not b) (1 + position_or_len (eq k) (map (λ x. x.0) es)) 0) (same k e.0 e.1)
    ∙ ap (λ (n : ℕ). cond (not (is_of k.blade k.page (request_of e))) (1 + n) 0) (position-requests_of eq same k es)

-- The same facts of the request that stands at a place.
pub started_pages : (rs : List Request) (i : ℕ) (r : Request) → slice_get rs i ≡ Some r → r.fetching ≡ false → fetched_pages (fetching_at rs i) ≡ insert (fetched_pages rs) (fetching_in (take i rs)) r.page
started_pages rs i r at e =
    let l = slice_get_within rs i r at in
    let g = get_or_from_slice_get rs i r r at in
    fetched-fetching_at rs i r l (ap (λ (q : Request). q.fetching) g ∙ e) ∙ ap (λ (q : Request). insert (fetched_pages rs) (fetching_in (take i rs)) q.page) g

pub removed_pages : (rs : List Request) (i : ℕ) (r : Request) → slice_get rs i ≡ Some r → fetched_pages (remove rs i) ≡ cond r.fetching (remove (fetched_pages rs) (fetching_in (take i rs))) (fetched_pages rs)
removed_pages rs i r at =
    fetched-remove rs i r (slice_get_within rs i r at)
    ∙ ap (λ (q : Request). cond q.fetching (remove (fetched_pages rs) (fetching_in (take i rs))) (fetched_pages rs)) (get_or_from_slice_get rs i r r at)

pub place_below : (rs : List Request) (i : ℕ) (r : Request) → slice_get rs i ≡ Some r → r.fetching ≡ true → fetching_in (take i rs) < length (fetched_pages rs)
place_below rs i r at e = place_within rs i r (slice_get_within rs i r at) (ap (λ (q : Request). q.fetching) (get_or_from_slice_get rs i r r at) ∙ e)

pub fetching_in-more : (rs : List Request) (i : ℕ) (r : Request) → slice_get rs i ≡ Some r → fetching_in (take (i + 1) rs) ≡ fetching_in (take i rs) + cond r.fetching 1 0
fetching_in-more rs i r at =
    ap fetching_in (take_more rs i r (slice_get_within rs i r at) ∙ ap (λ (q : Request). take i rs ++ q ∷ []) (get_or_from_slice_get rs i r r at))
    ∙ fetching_in-push (take i rs) r

pub requests_of-remove : (es : List (Wanted × Access)) (i : ℕ) → requests_of (remove es i) ≡ remove (requests_of es) i
requests_of-remove es i =
    map-append request_of (take i es) (drop (suc i) es)
    ∙ ap (λ (rs : List Request). rs ++ map request_of (drop (suc i) es)) (sym (take-map request_of i es))
    ∙ ap (λ (rs : List Request). take i (requests_of es) ++ rs) (sym (drop-map request_of (suc i) es))

-- what a look-up by key says of the requests
below_from : (p n : ℕ) → nat_lt p n ≡ true → p < n
below_from p n h = grind (arith, nat_tests)

pub at_key : (eq : Wanted → Wanted → Bool) → Tests eq → (k : Wanted) (es : List (Wanted × Access)) (n : ℕ) → AskOncePerPage (requests_of es) → Some n ≡ position (eq k) (map (λ e. e.0) es) → IsAt k.blade k.page (requests_of es) n
at_key eq same k es n apart e =
    let place = position_or_len (eq k) (map (λ x. x.0) es) in
    let found = cond_some (nat_lt place (length (map (λ x. x.0) es))) place n (sym e) in
    let below = below_from place (length (map (λ x. x.0) es)) found.0 in
    is_at k.blade k.page (requests_of es) n apart (sym found.1 ∙ position-requests_of eq same k es)
    (omega (arith, below, found.1, length-map es (λ (x : Wanted × Access). x.0), length-map es request_of))

not_below : (p n : ℕ) → None ≡ cond (nat_lt p n) (Some p) None → n ≤ p
not_below p n e = elim (cases_lt p n) [
  | inl l ↦ absurd (none-some p (e ∙ ap (λ (b : Bool). cond b (Some p) None) (passes p n l)))
  | inr l ↦ l
] where
  passes : (a b : ℕ) → a < b → nat_lt a b ≡ true
  passes a b l = grind (arith, nat_tests)

pub at_no_key : (eq : Wanted → Wanted → Bool) → Tests eq → (k : Wanted) (es : List (Wanted × Access)) → None ≡ position (eq k) (map (λ e. e.0) es) → IsNowhere k.blade k.page (requests_of es)
at_no_key eq same k es e =
    let above = not_below (position_or_len (eq k) (map (λ x. x.0) es)) (length (map (λ x. x.0) es)) e in
    is_nowhere k.blade k.page (requests_of es)
    (omega (arith, above, position-requests_of eq same k es, length-map es (λ (x : Wanted × Access). x.0), length-map es request_of))

-- leaving requests out keeps them apart, and makes them no more
pub apart-filter : (test : Request → Bool) (rs : List Request) → AskOncePerPage rs → AskOncePerPage (filter test rs)
apart-filter test [] h = tt
apart-filter test (r ∷ rs) h = elim (test r) as (λ b. AskOncePerPage (cond b (r ∷ filter test rs) (filter test rs))) [
  | true ↦ let P : Request → Type 0 = λ q. is_of r.blade r.page q ≡ false in
      (recursion_from_All P (filter test rs) (All-filter test P rs (All-from_recursion P rs h.0)), apart-filter test rs h.1)
  | false ↦ apart-filter test rs h.1
]
