-- No two pages lie at one place: homes are apart, runs are apart, and a run has no home page.
use Rattle.std.proofs.Common.{◌≡◌, ℕ, zero, suc, ◌+◌, ◌-◌, ◌<◌, ◌≤◌, ◌^◌, Bool, true, false, cond, inl, inr, List, [], ◌∷◌, length, filter, Option, Some, None, IfSome, sym, ap, subst, ◌∙◌, arith, refl}
use Rattle.std.specs.List.{Contains}
use Rattle.std.specs.Option.{option_map}
use Rattle.std.proofs.lemmas.List.Elements.{All-contains_itself, recursion_from_All}
use Rattle.std.proofs.lemmas.Option.{same_Some, none-some}
use Rattle.mind_base.specs.Home.{home_from, home_of}
use Rattle.mind_base.specs.Page.{PageView}
use Rattle.mind_base.specs.Range.{InRange, in_range}
use Rattle.mind_base.specs.declared.plans.MemoryPlan.{MemoryPlan}
use Rattle.range_translate.specs.Place.{smallest_of, place_in_outlier, place_or_home, physical_place}
use Rattle.range_translate.specs.declared.outliers.Outlier.{Outlier}
use Rattle.range_translate.proofs.Callers.{one-home, same-page, at-or-after, from-on, place-below, smallest-has, has_page, any_page, first_or_rest, in_range-has}
use Rattle.spare_pool.specs.Pool.{PoolView}
use Rattle.range_migrate.specs.Run.{home_pages, first_spare_of, has_spare_page, FitsRun, AreRuns}
use Rattle.range_migrate.proofs.Removing.{to_lies}

-- ---- at home

-- the number of a home is below the number of home pages of its memory blade
home-low-from : (k i : ℕ) (memories : List MemoryPlan) (page : PageView) (n : ℕ) → home_from k memories page ≡ Some (k + i, n) → n < home_pages memories i
home-low-from k i [] page n e = absurd (none-some (k + i, n) e)
home-low-from k zero (m ∷ memories) page n e = elim (at-or-after k m memories page (k + 0, n) e) [
  | inl here ↦ place-below m.homes page n here.place
  | inr after ↦ absurd (omega (arith, from-on (k + 1) memories page (k + 0, n) after))
]
home-low-from k (suc i) (m ∷ memories) page n e = elim (at-or-after k m memories page (k + suc i, n) e) [
  | inl here ↦ absurd (omega (arith, here.blade))
  | inr after ↦
      let number : k + suc i ≡ (k + 1) + i = omega arith in
      home-low-from (k + 1) i memories page n (after ∙ ap (λ (j : ℕ). Some (j, n)) number)
]

home-low : (memories : List MemoryPlan) (page : PageView) (home : ℕ × ℕ) → home_of memories page ≡ Some home → home.1 < home_pages memories home.0
home-low memories page home e =
    let number : home.0 ≡ 0 + home.0 = omega arith in
    home-low-from 0 home.0 memories page home.1 (e ∙ ap (λ (j : ℕ). Some (j, home.1)) number)

-- ---- in a run

count-cons : (t : Outlier → Bool) (x : Outlier) (xs : List Outlier) → length (filter t (x ∷ xs)) ≡ cond (t x) 1 0 + length (filter t xs)
count-cons t x xs = by (t x) where
  by : (b : Bool) → length (cond b (x ∷ filter t xs) (filter t xs)) ≡ cond b 1 0 + length (filter t xs)
  by true = omega arith
  by false = omega arith

some-pass : (t : Outlier → Bool) (xs : List Outlier) (a : Outlier) → Contains xs a → t a ≡ true → 0 < length (filter t xs)
some-pass t [] a c p = absurd (omega (arith, c.1))
some-pass t (x ∷ xs) a c p = elim (first_or_rest x xs a c) [
  | inl e ↦
      let one : ◌≡◌ {A = ℕ} (cond (t x) 1 0) 1 = ap (λ (y : Outlier). cond (t y) 1 0) e ∙ ap (λ b. cond b 1 0) p in
      omega (arith, one, count-cons t x xs)
  | inr r ↦ omega (arith, count-cons t x xs, some-pass t xs a r p)
]

-- of which at most one passes, two that pass are one
only-one : (t : Outlier → Bool) (xs : List Outlier) (a b : Outlier) → length (filter t xs) ≤ 1 → Contains xs a → Contains xs b → t a ≡ true → t b ≡ true → a ≡ b
only-one t [] a b few ca cb pa pb = absurd (omega (arith, ca.1))
only-one t (x ∷ xs) a b few ca cb pa pb = elim (first_or_rest x xs a ca) [
  | inl ea ↦ elim (first_or_rest x xs b cb) [
    | inl eb ↦ sym ea ∙ eb
    | inr rb ↦
        let one : ◌≡◌ {A = ℕ} (cond (t x) 1 0) 1 = ap (λ (y : Outlier). cond (t y) 1 0) ea ∙ ap (λ b. cond b 1 0) pa in
        absurd (omega (arith, few, one, count-cons t x xs, some-pass t xs b rb pb))
  ]
  | inr ra ↦ elim (first_or_rest x xs b cb) [
    | inl eb ↦
        let one : ◌≡◌ {A = ℕ} (cond (t x) 1 0) 1 = ap (λ (y : Outlier). cond (t y) 1 0) eb ∙ ap (λ b. cond b 1 0) pb in
        absurd (omega (arith, few, one, count-cons t x xs, some-pass t xs a ra pa))
    | inr rb ↦ only-one t xs a b (omega (arith, few, count-cons t x xs)) ra rb pa pb
  ]
]

-- what is known of the smallest outlier that has a page
record Chosen (homes : List MemoryPlan) (outliers : List Outlier) (page : PageView) (o : Outlier) : Type 0 where
  member : Contains outliers o
  has : InRange o.range page
  run : FitsRun homes o

there : (P : Outlier → Type 0) (m : Option Outlier) (o : Outlier) → m ≡ Some o → IfSome m P → P o
there P None o e h = absurd (none-some o e)
there P (Some x) o e h = subst P (same_Some x o e) h

chosen : (homes : List MemoryPlan) (outliers : List Outlier) (pools : List PoolView) (page : PageView) (o : Outlier) → AreRuns homes outliers pools → smallest_of outliers page ≡ Some o → Chosen homes outliers page o
chosen homes outliers pools page o h e = record {
  member = there (Contains outliers) (smallest_of outliers page) o e (smallest-has (Contains outliers) outliers page (any_page (Contains outliers) outliers page (recursion_from_All (Contains outliers) outliers (All-contains_itself outliers))));
  has = in_range-has o.range page (there (λ x. in_range x.range page ≡ true) (smallest_of outliers page) o e (smallest-has (λ x. in_range x.range page ≡ true) outliers page (has_page outliers page)));
  run = there (FitsRun homes) (smallest_of outliers page) o e (smallest-has (FitsRun homes) outliers page (any_page (FitsRun homes) outliers page h.runs));
}

-- the page is one of the outlier's spare pages
uses : (homes : List MemoryPlan) (outliers : List Outlier) (page : PageView) (o : Outlier) (memory number : ℕ) → Chosen homes outliers page o → ◌≡◌ {A = ℕ × ℕ} (o.memory, o.first + (page.number - o.range.base)) (memory, number) → has_spare_page homes memory (number - home_pages homes memory) o ≡ true
uses homes outliers page o memory number c e =
    let blade : o.memory ≡ memory = ap (λ (p : ℕ × ℕ). p.0) e in
    let base : home_pages homes o.memory ≡ home_pages homes memory = ap (home_pages homes) blade in
    let at : o.first + (page.number - o.range.base) ≡ number = ap (λ (p : ℕ × ℕ). p.1) e in
    let from = c.run.from in
    to_lies o.memory memory (first_spare_of homes o) (number - home_pages homes memory) (2 ^ o.range.log) blade (omega (arith, base, at, from)) (omega (arith, base, at, from, c.has.from, c.has.below))

-- ---- all places

record Lies (homes : List MemoryPlan) (outliers : List Outlier) (page : PageView) (place : ℕ × ℕ) : Type 0 where
  home : ℕ × ℕ
  at_home : home_of homes page ≡ Some home
  lies : place_or_home (smallest_of outliers page) page home ≡ place

lies-of : (homes : List MemoryPlan) (outliers : List Outlier) (page : PageView) (place : ℕ × ℕ) (m : Option (ℕ × ℕ)) → home_of homes page ≡ m → option_map (place_or_home (smallest_of outliers page) page) m ≡ Some place → Lies homes outliers page place
lies-of homes outliers page place None h e = absurd (none-some place e)
lies-of homes outliers page place (Some home) h e = record { home = home; at_home = h; lies = same_Some _ _ e }

-- a page at home and one in a run lie apart
home-and-run : (homes : List MemoryPlan) (outliers : List Outlier) (a b : PageView) (o : Outlier) (home place : ℕ × ℕ) → home_of homes a ≡ Some home → home ≡ place → Chosen homes outliers b o → place_in_outlier o b ≡ place → ⊥
home-and-run homes outliers a b o home place h e c f =
    let low : home.1 < home_pages homes home.0 = home-low homes a home h in
    let blade : home.0 ≡ o.memory = ap (λ (p : ℕ × ℕ). p.0) (e ∙ sym f) in
    let number : home.1 ≡ o.first + (b.number - o.range.base) = ap (λ (p : ℕ × ℕ). p.1) (e ∙ sym f) in
    let same : home_pages homes home.0 ≡ home_pages homes o.memory = ap (home_pages homes) blade in
    omega (arith, low, number, same, c.run.from)

-- two pages of one outlier
in-one : (a b : PageView) (o : Outlier) → InRange o.range a → InRange o.range b → o.first + (a.number - o.range.base) ≡ o.first + (b.number - o.range.base) → a ≡ b
in-one a b o ha hb e = same-page a b (ha.domain ∙ sym hb.domain) (omega (arith, ha.from, hb.from, e))

pub apart : (homes : List MemoryPlan) (outliers : List Outlier) (pools : List PoolView) (a b : PageView) (place : ℕ × ℕ) → AreRuns homes outliers pools → physical_place homes outliers a ≡ Some place → physical_place homes outliers b ≡ Some place → a ≡ b
apart homes outliers pools a b place runs ea eb =
    let x = lies-of homes outliers a place (home_of homes a) refl ea in
    let y = lies-of homes outliers b place (home_of homes b) refl eb in
    by x.home y.home x.at_home y.at_home (smallest_of outliers a) refl x.lies (smallest_of outliers b) refl y.lies where
      by : (home other : ℕ × ℕ) → home_of homes a ≡ Some home → home_of homes b ≡ Some other
          → (m : Option Outlier) → smallest_of outliers a ≡ m → place_or_home m a home ≡ place
          → (n : Option Outlier) → smallest_of outliers b ≡ n → place_or_home n b other ≡ place → a ≡ b
      by home other ha hb None s e None t f = one-home homes a b home ha (hb ∙ ap Some (f ∙ sym e))
      by home other ha hb None s e (Some o) t f = absurd (home-and-run homes outliers a b o home place ha e (chosen homes outliers pools b o runs t) f)
      by home other ha hb (Some o) s e None t f = absurd (home-and-run homes outliers b a o other place hb f (chosen homes outliers pools a o runs s) e)
      by home other ha hb (Some o) s e (Some p) t f =
          let c = chosen homes outliers pools a o runs s in
          let d = chosen homes outliers pools b p runs t in
          let spare : ℕ = place.1 - home_pages homes place.0 in
          let same : o ≡ p = only-one (has_spare_page homes place.0 spare) outliers o p (runs.apart place.0 spare) c.member d.member (uses homes outliers a o place.0 place.1 c e) (uses homes outliers b p place.0 place.1 d f) in
          let has : InRange o.range b = subst (λ (q : Outlier). InRange q.range b) (sym same) d.has in
          let both : place_in_outlier o a ≡ place_in_outlier o b = e ∙ sym f ∙ ap (λ (q : Outlier). place_in_outlier q b) (sym same) in
          in-one a b o c.has has (ap (λ (q : ℕ × ℕ). q.1) both)
