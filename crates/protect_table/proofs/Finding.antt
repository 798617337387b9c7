-- The first page of a run of a permission that is looked for.
use Rattle.std.proofs.Common.{◌≡◌, ◌≢◌, ℕ, ◌+◌, ◌-◌, ◌<◌, ◌≤◌, ◌^◌, Bool, true, false, refl, sym, ◌∙◌, ap, arith, inl, inr, Option, Some, None, option_map, List, get_or}
use Rattle.std.proofs.lemmas.Bool.{both_ways, cases_Bool, cases_lt}
use Rattle.mind_base.specs.Page.{PageView}
use Rattle.mind_base.specs.Span.{SpanView, InSpan}
use Rattle.mind_base.specs.declared.commands.Perm.{Perm}
use Rattle.mind_base.specs.declared.commands.Perm.TheVariants.{No, R, Rw}
use Rattle.protect_table.specs.declared.blocks.Sought.{Sought}
use Rattle.protect_table.specs.declared.blocks.Sought.TheVariants.{Unmapped, Mapped}
use Rattle.protect_table.specs.Protect.{permission_among, FirstPage}
use Rattle.protect_table.proofs.Tables.{page-of-domain}
use Rattle.protect_table.specs.Block.{BlockView, whole, halves, permission_in, IsHalved, lies_apart, is_sought, first_in, first_some}
use Rattle.protect_table.proofs.Halving.{sizes, lower-page, upper-page, apart-false, apart-among, among-in}

-- the number is the first from one number to below another, and below a size, that passes
pub record IsFirst (test : ℕ → Bool) (size from to n : ℕ) : Type 0 where
  pub inside : n < size
  pub above : from ≤ n
  pub below : n < to
  pub passes : test n ≡ true
  pub earliest : (i : ℕ) → from ≤ i → i < n → test i ≡ false

abbrev pub First : (ℕ → Bool) → ℕ → ℕ → ℕ → Option ℕ → Type 0
First test size from to None = (i : ℕ) → i < size → from ≤ i → i < to → test i ≡ false
First test size from to (Some n) = IsFirst test size from to n

first-apart : (test : ℕ → Bool) (size from to : ℕ) → lies_apart size from to ≡ true → First test size from to None
first-apart test size from to e i inside above below =
    absurd (both_ways _ (apart-among size from to i inside e) (among-in from to i above below))

first-halves : (test low high : ℕ → Bool) (size half from to : ℕ) → size ≡ half + half → ((n : ℕ) → n < half → test n ≡ low n) → ((n : ℕ) → n < half → test (half + n) ≡ high n) → (a b : Option ℕ) → First low half from to a → First high half (from - half) (to - half) b → First test size from to (first_some a (option_map (λ n. half + n) b))
first-halves test low high size half from to whole_size l h (Some n) b p q = record {
  inside = omega (arith, p.inside);
  above = p.above;
  below = p.below;
  passes = l n p.inside ∙ p.passes;
  earliest = λ i above before. l i (omega (arith, p.inside)) ∙ p.earliest i above before;
}
first-halves test low high size half from to whole_size l h None None p q = λ i inside above below.
    elim (cases_lt i half) [
      | inl lower ↦ l i lower ∙ p i lower above below
      | inr upper ↦
          let s : half + (i - half) ≡ i = omega arith in
          ap test (sym s) ∙ (h (i - half) (omega arith) ∙ q (i - half) (omega arith) (omega arith) (omega arith))
    ]
first-halves test low high size half from to whole_size l h None (Some m) p q = record {
  inside = omega (arith, q.inside);
  above = omega (arith, q.above);
  below = omega (arith, q.below);
  passes = h m q.inside ∙ q.passes;
  earliest = λ i above before. elim (cases_lt i half) [
    | inl lower ↦ l i lower ∙ p i lower above (omega (arith, q.below))
    | inr upper ↦
        let s : half + (i - half) ≡ i = omega arith in
        ap test (sym s) ∙ (h (i - half) (omega (arith, q.inside)) ∙ q.earliest (i - half) (omega arith) (omega arith))
  ];
}

pub first_in-finds : (sought : Sought) (block : BlockView) (k from to : ℕ) → IsHalved block k → First (λ n. is_sought sought (permission_in block k n)) (2 ^ k) from to (first_in sought block k from to)
first_in-finds sought (whole p) k from to s = elim (cases_Bool (lies_apart (2 ^ k) from to)) [
  | inl e ↦ rw e (first-apart (λ n. is_sought sought p) (2 ^ k) from to e)
  | inr e ↦ elim (cases_Bool (is_sought sought p)) [
    | inl fits ↦
        let a = apart-false (2 ^ k) from to e in
        rw (e, fits) (record { inside = a.0; above = omega arith; below = a.1; passes = refl; earliest = λ i above before. absurd (omega arith) })
    | inr fails ↦ rw (e, fails) (λ i inside above below. refl)
  ]
]
first_in-finds sought (halves l u) k from to s = elim (cases_Bool (lies_apart (2 ^ k) from to)) [
  | inl e ↦ rw e (first-apart (λ n. is_sought sought (permission_in (halves l u) k n)) (2 ^ k) from to e)
  | inr e ↦ rw e (first-halves (λ n. is_sought sought (permission_in (halves l u) k n)) (λ n. is_sought sought (permission_in l (k - 1) n)) (λ n. is_sought sought (permission_in u (k - 1) n)) (2 ^ k) (2 ^ (k - 1)) from to (sizes k s.0)
      (λ n lt. ap (is_sought sought) (lower-page l u k n lt)) (λ n lt. ap (is_sought sought) (upper-page l u k n))
      (first_in sought l (k - 1) from to) (first_in sought u (k - 1) (from - 2 ^ (k - 1)) (to - 2 ^ (k - 1)))
      (first_in-finds sought l (k - 1) from to s.1.1.0) (first_in-finds sought u (k - 1) (from - 2 ^ (k - 1)) (to - 2 ^ (k - 1)) s.1.1.1))
]

-- the same of pages
first-page : (domains : List BlockView) (sought : Sought) (span : SpanView) → span.base + span.pages ≤ 2 ^ 20 → (r : Option ℕ) → First (λ n. is_sought sought (permission_in (get_or domains span.domain (whole No)) 20 n)) (2 ^ 20) span.base (span.base + span.pages) r → FirstPage (λ page. is_sought sought (permission_among domains page) ≡ true) span (option_map (λ n. record { domain = span.domain; number = n }) r)
first-page domains sought span fits None h = λ page within passes.
    let e = page-of-domain domains span page within fits in
    both_ways _ (h page.number (omega (arith, within.below)) within.from within.below) (ap (is_sought sought) (sym e) ∙ passes)
first-page domains sought span fits (Some n) h =
    let here : InSpan span (record { domain = span.domain; number = n }) = record { domain = refl; from = h.above; below = h.below } in
    record {
      within = here;
      holds = ap (is_sought sought) (page-of-domain domains span (record { domain = span.domain; number = n }) here fits) ∙ h.passes;
      earliest = λ page within before passes.
          let e = page-of-domain domains span page within fits in
          both_ways _ (h.earliest page.number within.from before) (ap (is_sought sought) (sym e) ∙ passes);
    }

pub first-found : (domains : List BlockView) (sought : Sought) (span : SpanView) → span.base + span.pages ≤ 2 ^ 20 → (block : BlockView) → block ≡ get_or domains span.domain (whole No) → IsHalved block 20 → (r : Option ℕ) → r ≡ first_in sought block 20 span.base (span.base + span.pages) → FirstPage (λ page. is_sought sought (permission_among domains page) ≡ true) span (option_map (λ n. record { domain = span.domain; number = n }) r)
first-found domains sought span fits block here halved r e =
    let found = first_in-finds sought block 20 span.base (span.base + span.pages) halved in
    first-page domains sought span fits r (rw (e, ← here) found)

-- the first page of which one thing is true is that of another that says the same
pub FirstPage-like : (P Q : PageView → Type 0) → ((page : PageView) → P page → Q page) → ((page : PageView) → Q page → P page) → (span : SpanView) (r : Option PageView) → FirstPage P span r → FirstPage Q span r
FirstPage-like P Q there back span None h = λ page within q. h page within (back page q)
FirstPage-like P Q there back span (Some page) h = record {
  within = h.within;
  holds = there page h.holds;
  earliest = λ earlier within before q. h.earliest earlier within before (back earlier q);
}

pub sought-none : (p : Perm) → is_sought Unmapped p ≡ true → p ≡ No
sought-none No e = refl
sought-none R e = absurd (both_ways false refl e)
sought-none Rw e = absurd (both_ways false refl e)

pub none-sought : (p : Perm) → p ≡ No → is_sought Unmapped p ≡ true
none-sought p e = rw e refl

pub sought-some : (p : Perm) → is_sought Mapped p ≡ true → p ≢ No
sought-some p e n = both_ways (is_sought Mapped p) (rw n refl) e

pub some-sought : (p : Perm) → p ≢ No → is_sought Mapped p ≡ true
some-sought No ne = absurd (ne refl)
some-sought R ne = refl
some-sought Rw ne = refl
