-- Which pages are free once a run is taken, or given back.
use Rattle.std.proofs.Common.{◌≡◌, ℕ, zero, suc, ◌+◌, ◌^◌, ◌<◌, ◌≤◌, ◌↔◌, ◌⊎◌, Bool, true, false, not, ◌&&◌, nat_lt, nat_le, cond, List, [], ◌∷◌, ◌++◌, filter, Contains, refl, sym, subst, inl, inr, arith}
use Rattle.std.specs.List.{range_with_len}
use Rattle.std.proofs.lemmas.Bool.{cases_lt}
use Rattle.std.proofs.lemmas.Bool.Decides.{nat_tests}
use Rattle.std.proofs.lemmas.List.Elements.{Contains-append_left, Contains-append_right, Contains-append_cases}
use Rattle.spare_pool.specs.Pool.{PoolView, InRun, without_run, with_run}
use Rattle.spare_pool.proofs.Places.{Contains-there}

-- the first number of a list, or one of the rest
first_or_rest : (x : ℕ) (xs : List ℕ) (y : ℕ) → Contains (x ∷ xs) y → (x ≡ y) ⊎ Contains xs y
first_or_rest x xs y (zero, l, e) = inl e
first_or_rest x xs y (suc k, l, e) = inr (k, omega (arith, l), e)

-- the test's answer at the first number decides
kept_cases : (test : ℕ → Bool) (x : ℕ) (xs : List ℕ) (y : ℕ) (b : Bool) → test x ≡ b → Contains (cond b (x ∷ xs) xs) y → ((x ≡ y) × (test y ≡ true)) ⊎ Contains xs y
kept_cases test x xs y true t h = elim (first_or_rest x xs y h) [ inl e ↦ inl (e, subst (λ (n : ℕ). test n ≡ true) e t) | inr r ↦ inr r ]
kept_cases test x xs y false t h = inr h

pub passes_from_filter : (test : ℕ → Bool) (xs : List ℕ) (y : ℕ) → Contains (filter test xs) y → Contains xs y × (test y ≡ true)
passes_from_filter test [] y h = absurd (omega (arith, h.1))
passes_from_filter test (x ∷ xs) y h = elim (kept_cases test x (filter test xs) y (test x) refl h) [
  | inl e ↦ ((0, omega arith, e.0), e.1)
  | inr r ↦ (let p = passes_from_filter test xs y r in (Contains-there x xs y p.0, p.1))
]

in_kept : (x : ℕ) (xs : List ℕ) (y : ℕ) (b : Bool) → (x ≡ y → b ≡ true) → (x ≡ y) ⊎ Contains xs y → Contains (cond b (x ∷ xs) xs) y
in_kept x xs y true t (inl e) = (0, omega arith, e)
in_kept x xs y true t (inr h) = Contains-there x xs y h
in_kept x xs y false t (inl e) = absurd (let n = t e in cc)
in_kept x xs y false t (inr h) = h

pub filter_from_passes : (test : ℕ → Bool) (xs : List ℕ) (y : ℕ) → test y ≡ true → Contains xs y → Contains (filter test xs) y
filter_from_passes test [] y t h = absurd (omega (arith, h.1))
filter_from_passes test (x ∷ xs) y t h = in_kept x (filter test xs) y (test x) (λ e. subst (λ (n : ℕ). test n ≡ true) (sym e) t)
    (elim (first_or_rest x xs y h) [ inl e ↦ inl e | inr r ↦ inr (filter_from_passes test xs y t r) ])

pub in_range : (low count y : ℕ) → Contains (range_with_len low count) y → (low ≤ y) × (y < low + count)
in_range low zero y h = absurd (omega (arith, h.1))
in_range low (suc count) y h = elim (first_or_rest low (range_with_len (low + 1) count) y h) [
  | inl e ↦ (omega arith, omega arith)
  | inr r ↦ (let b = in_range (low + 1) count y r in (omega arith, omega arith))
]

here_or_above : (low count y : ℕ) → low ≤ y → y < low + suc count → (low ≡ y) ⊎ ((low + 1 ≤ y) × (y < low + 1 + count))
here_or_above low count y l h = elim (cases_lt low y) [ inl a ↦ inr (omega arith, omega arith) | inr b ↦ inl (omega arith) ]

pub range_has : (low count y : ℕ) → low ≤ y → y < low + count → Contains (range_with_len low count) y
range_has low zero y l h = absurd (omega arith)
range_has low (suc count) y l h = elim (here_or_above low count y l h) [
  | inl e ↦ (0, omega arith, e)
  | inr a ↦ Contains-there low _ y (range_has (low + 1) count y a.0 a.1)
]

-- the pages that are left are those that were free and are none of the run
pub pages_without : (pool : PoolView) (log first page : ℕ) → Contains (without_run pool log first).free page ↔ (Contains pool.free page × (InRun log first page → ⊥))
pages_without pool log first page = (
  λ h. (let p = passes_from_filter (λ n. not (nat_le first n && nat_lt n (first + 2 ^ log))) pool.free page h in
      (p.0, λ i. let t = p.1 in let a = i.0 in let b = i.1 in grind (arith, nat_tests))),
  λ h. filter_from_passes (λ n. not (nat_le first n && nat_lt n (first + 2 ^ log))) pool.free page (outside_test first (2 ^ log) page h.1) h.0,
) where
  outside_test : (first size page : ℕ) → ((first ≤ page) × (page < first + size) → ⊥) → not (nat_le first page && nat_lt page (first + size)) ≡ true
  outside_test first size page h = elim (cases_lt page first) [
    | inl l ↦ grind (arith, nat_tests)
    | inr l ↦ elim (cases_lt page (first + size)) [ inl m ↦ absurd (h (l, m)) | inr m ↦ grind (arith, nat_tests) ]
  ]

-- the middle one of three lists
in_middle : (xs ys zs : List ℕ) (y : ℕ) → Contains ys y → Contains (xs ++ ys ++ zs) y
in_middle xs ys zs y h = Contains-append_left (xs ++ ys) zs y (Contains-append_right xs ys y h)

in_first : (xs ys zs : List ℕ) (y : ℕ) → Contains xs y → Contains (xs ++ ys ++ zs) y
in_first xs ys zs y h = Contains-append_left (xs ++ ys) zs y (Contains-append_left xs ys y h)

-- the pages that are free once a run is given back
pub pages_with : (pool : PoolView) (log first page : ℕ) → Contains (with_run pool log first).free page ↔ (Contains pool.free page ⊎ InRun log first page)
pages_with pool log first page = (
  λ h. elim (Contains-append_cases (filter (λ n. nat_lt n first) pool.free ++ range_with_len first (2 ^ log)) (filter (λ n. nat_le (first + 2 ^ log) n) pool.free) page h) [
    | inl a ↦ elim (Contains-append_cases (filter (λ n. nat_lt n first) pool.free) (range_with_len first (2 ^ log)) page a) [
      | inl b ↦ inl (passes_from_filter (λ n. nat_lt n first) pool.free page b).0
      | inr b ↦ inr (in_range first (2 ^ log) page b)
    ]
    | inr a ↦ inl (passes_from_filter (λ n. nat_le (first + 2 ^ log) n) pool.free page a).0
  ],
  λ h. let low = filter (λ n. nat_lt n first) pool.free in
      let run = range_with_len first (2 ^ log) in
      let high = filter (λ n. nat_le (first + 2 ^ log) n) pool.free in
      elim h [
        | inl f ↦ elim (cases_lt page first) [
          | inl l ↦ in_first low run high page (filter_from_passes (λ n. nat_lt n first) pool.free page (grind (arith, nat_tests)) f)
          | inr l ↦ elim (cases_lt page (first + 2 ^ log)) [
            | inl m ↦ in_middle low run high page (range_has first (2 ^ log) page l m)
            | inr m ↦ Contains-append_right (low ++ run) high page (filter_from_passes (λ n. nat_le (first + 2 ^ log) n) pool.free page (grind (arith, nat_tests)) f)
          ]
        ]
        | inr i ↦ in_middle low run high page (range_has first (2 ^ log) page i.0 i.1)
      ],
)
