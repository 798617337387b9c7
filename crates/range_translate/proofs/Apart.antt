-- Runs that share no page have no more pages together than there are: 16 domains of 2 ^ 20.
use Rattle.std.proofs.Common.{◌≡◌, ℕ, zero, suc, ◌+◌, ◌-◌, ◌*◌, ◌/◌, ◌%◌, ◌<◌, ◌≤◌, ◌⊎◌, ◌&&◌, nat_lt, nat_le, cond, List, [], ◌∷◌, ◌++◌, length, take, drop, get_or, map, subst, refl, sym, ap, ◌∙◌, inl, inr, arith}
use Rattle.std.specs.List.{AllByRecursion}
use Rattle.std.proofs.lemmas.List.{take_more, take-append-drop}
use Rattle.std.proofs.lemmas.List.Sums.{sum_by-cons}
use Rattle.std.proofs.lemmas.Bool.{cases_lt}
use Rattle.std.proofs.lemmas.Bool.Decides.{nat_tests}
use Rattle.mind_base.specs.Page.{PageView}
use Rattle.mind_base.specs.Span.{SpanView, IsSpan, InSpan}
use Rattle.mind_base.specs.Fit.{IsApart, AreApart}
use Rattle.range_translate.specs.Place.{pages_of}

-- Pages are numbered through all domains: a run's pages are the numbers from its start on.
abbrev pub start : SpanView → ℕ
start s = s.domain * 1048576 + s.base

abbrev pub Covers : SpanView → ℕ → Type 0
Covers s n = (start s ≤ n) × (n < start s + s.pages)

abbrev pub IsSpanView : SpanView → Type 0
IsSpanView s = IsSpan s.domain s.base s.pages

page_at : ℕ → PageView
page_at n = record { domain = n / 1048576; number = n % 1048576 }

in_span_at : (s : SpanView) (n : ℕ) → IsSpanView s → Covers s n → InSpan s (page_at n)
unfolding page_at
in_span_at s n span c = record { domain = omega arith; from = omega arith; below = omega arith }

apart_at : (a b : SpanView) (n : ℕ) → IsSpanView a → IsSpanView b → IsApart a b → Covers a n → Covers b n → ⊥
apart_at a b n sa sb apart ca cb = apart (page_at n) (in_span_at a n sa ca) (in_span_at b n sb cb)

-- how many of the runs have the page of that number
hit : SpanView → ℕ → ℕ
hit s n = cond (nat_le (start s) n && nat_lt n (start s + s.pages)) 1 0

hits : List SpanView → ℕ → ℕ
hits [] n = 0
hits (s ∷ ss) n = hit s n + hits ss n

hit_inside : (s : SpanView) (n : ℕ) → Covers s n → hit s n ≡ 1
unfolding hit
hit_inside s n c = let a = c.0 in let b = c.1 in grind (arith, nat_tests)

hit_outside : (s : SpanView) (n : ℕ) → (Covers s n → ⊥) → hit s n ≡ 0
unfolding hit
hit_outside s n h = elim (cases_lt n (start s)) [
  | inl l ↦ grind (arith, nat_tests)
  | inr l ↦ elim (cases_lt n (start s + s.pages)) [ inl m ↦ absurd (h (l, m)) | inr m ↦ grind (arith, nat_tests) ]
]

hit_cases : (s : SpanView) (n : ℕ) → Covers s n ⊎ (hit s n ≡ 0)
hit_cases s n = elim (cases_lt n (start s)) [
  | inl l ↦ inr (hit_outside s n (λ c. omega (arith, c.0)))
  | inr l ↦ elim (cases_lt n (start s + s.pages)) [ inl m ↦ inl (l, m) | inr m ↦ inr (hit_outside s n (λ c. omega (arith, c.1))) ]
]

no_hits : (s : SpanView) (ss : List SpanView) (n : ℕ) → IsSpanView s → AllByRecursion IsSpanView ss → AllByRecursion (IsApart s) ss → Covers s n → hits ss n ≡ 0
unfolding hits
no_hits s [] n span spans apart c = refl
no_hits s (t ∷ ss) n span spans apart c =
    let here = hit_outside t n (λ d. apart_at s t n span spans.0 apart.0 c d) in
    let rest = no_hits s ss n span spans.1 apart.1 c in
    omega arith

one_hit : (ss : List SpanView) (n : ℕ) → AllByRecursion IsSpanView ss → AreApart ss → hits ss n ≤ 1
unfolding hits
one_hit [] n spans apart = omega arith
one_hit (s ∷ ss) n spans apart = elim (hit_cases s n) [
  | inl c ↦ (let here = hit_inside s n c in let rest = no_hits s ss n spans.0 spans.1 apart.0 c in omega arith)
  | inr z ↦ (let rest = one_hit ss n spans.1 apart.1 in omega arith)
]

-- the hits at all numbers below m
all_hits : List SpanView → ℕ → ℕ
all_hits ss zero = 0
all_hits ss (suc m) = all_hits ss m + hits ss m

few_hits : (ss : List SpanView) (m : ℕ) → AllByRecursion IsSpanView ss → AreApart ss → all_hits ss m ≤ m
unfolding all_hits
few_hits ss zero spans apart = omega arith
few_hits ss (suc m) spans apart = let a = few_hits ss m spans apart in let b = one_hit ss m spans apart in omega arith

-- a run's own hits, up to m
own_hits : SpanView → ℕ → ℕ
own_hits s zero = 0
own_hits s (suc m) = own_hits s m + hit s m

all_hits-cons : (s : SpanView) (ss : List SpanView) (m : ℕ) → all_hits (s ∷ ss) m ≡ own_hits s m + all_hits ss m
unfolding all_hits own_hits hits
all_hits-cons s ss zero = refl
all_hits-cons s ss (suc m) = let a = all_hits-cons s ss m in omega arith

own_hits-is : (s : SpanView) (m : ℕ) → own_hits s m + (m - (start s + s.pages)) ≡ m - start s
unfolding own_hits
own_hits-is s zero = omega arith
own_hits-is s (suc m) = let a = own_hits-is s m in elim (cases_lt m (start s)) [
  | inl l ↦ (let z = hit_outside s m (λ c. omega (arith, c.0)) in omega arith)
  | inr l ↦ elim (cases_lt m (start s + s.pages)) [
    | inl k ↦ (let z = hit_inside s m (l, k) in omega arith)
    | inr k ↦ (let z = hit_outside s m (λ c. omega (arith, c.1)) in omega arith)
  ]
]

none_hit : (m : ℕ) → all_hits [] m ≡ 0
unfolding all_hits hits
none_hit zero = refl
none_hit (suc m) = let a = none_hit m in omega arith

pub pages_of-cons : (s : SpanView) (ss : List SpanView) → pages_of (s ∷ ss) ≡ s.pages + pages_of ss
pages_of-cons s ss = sum_by-cons (λ (x : ℕ). x) s.pages (map (λ (t : SpanView). t.pages) ss)

pages-all_hits : (ss : List SpanView) (m : ℕ) → AllByRecursion (λ s. start s + s.pages ≤ m) ss → pages_of ss ≡ all_hits ss m
pages-all_hits [] m h = sym (none_hit m)
pages-all_hits (s ∷ ss) m h = let a = own_hits-is s m in let b = pages-all_hits ss m h.1 in let e = all_hits-cons s ss m in let i = h.0 in
    let sums = pages_of-cons s ss in omega arith

ends : (ss : List SpanView) → AllByRecursion IsSpanView ss → AllByRecursion (λ s. start s + s.pages ≤ 16777216) ss
ends [] h = tt
ends (s ∷ ss) h = (let i = h.0 in omega arith, ends ss h.1)

pages_below : (ss : List SpanView) (m : ℕ) → AllByRecursion (λ s. start s + s.pages ≤ m) ss → AllByRecursion IsSpanView ss → AreApart ss → pages_of ss ≤ m
pages_below ss m e spans apart = omega (arith, pages-all_hits ss m e, few_hits ss m spans apart)

pub few_pages : (ss : List SpanView) → AllByRecursion IsSpanView ss → AreApart ss → pages_of ss ≤ 16777216
few_pages ss spans apart = pages_below ss 16777216 (ends ss spans) spans apart

-- the first runs of runs that share no page share none
AllByRecursion-front : (P : SpanView → Type 0) (xs ys : List SpanView) → AllByRecursion P (xs ++ ys) → AllByRecursion P xs
AllByRecursion-front P [] ys h = tt
AllByRecursion-front P (x ∷ xs) ys h = (h.0, AllByRecursion-front P xs ys h.1)

pub AreApart-front : (xs ys : List SpanView) → AreApart (xs ++ ys) → AreApart xs
AreApart-front [] ys h = tt
AreApart-front (x ∷ xs) ys h = (AllByRecursion-front (IsApart x) xs ys h.0, AreApart-front xs ys h.1)

pub AreApart-rest : (xs ys : List SpanView) → AreApart (xs ++ ys) → AreApart ys
AreApart-rest [] ys h = h
AreApart-rest (x ∷ xs) ys h = AreApart-rest xs ys h.1

AllByRecursion-push : (P : SpanView → Type 0) (xs : List SpanView) (x : SpanView) → AllByRecursion P xs → P x → AllByRecursion P (xs ++ x ∷ [])
AllByRecursion-push P [] y h p = (p, tt)
AllByRecursion-push P (x ∷ xs) y h p = (h.0, AllByRecursion-push P xs y h.1 p)

pages_of-push : (xs : List SpanView) (x : SpanView) → pages_of (xs ++ x ∷ []) ≡ pages_of xs + x.pages
pages_of-push [] y = refl
pages_of-push (x ∷ xs) y =
    let a = pages_of-cons x (xs ++ y ∷ []) in
    let b = pages_of-cons x xs in
    let c = pages_of-push xs y in omega arith

-- what a loop over the runs knows when it has read one more
pub record ReadOne (homes : List SpanView) (i pages : ℕ) : Type 0 where
  pub spans : AllByRecursion IsSpanView (take (i + 1) homes)
  pub sum : pages ≡ pages_of (take (i + 1) homes)
  pub few : pages ≤ 16777216

pub read_one : (homes : List SpanView) (i pages : ℕ) (s : SpanView) → AreApart homes → i < length homes → s ≡ get_or homes i s → IsSpanView s →
    AllByRecursion IsSpanView (take i homes) → pages ≡ pages_of (take i homes) → ReadOne homes i (pages + s.pages)
read_one homes i pages s apart within read span spans sum =
    let front : take (i + 1) homes ≡ take i homes ++ s ∷ [] = take_more homes i s within ∙ ap (λ (x : SpanView). take i homes ++ x ∷ []) (sym read) in
    let all : AllByRecursion IsSpanView (take (i + 1) homes) = subst (AllByRecursion IsSpanView) (sym front) (AllByRecursion-push IsSpanView (take i homes) s spans span) in
    let parts : AreApart (take (i + 1) homes) = AreApart-front (take (i + 1) homes) (drop (i + 1) homes) (subst AreApart (sym (take-append-drop (i + 1) homes)) apart) in
    let total : pages + s.pages ≡ pages_of (take (i + 1) homes) = omega (arith, ap pages_of front, pages_of-push (take i homes) s) in
    record { spans = all; sum = total; few = omega (arith, few_pages (take (i + 1) homes) all parts) }
