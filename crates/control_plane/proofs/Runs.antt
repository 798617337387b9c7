-- What all pages of a run have in common.
use Rattle.std.proofs.Common.{◌≡◌, ◌≢◌, ℕ, ◌+◌, ◌-◌, ◌<◌, ◌==◌, Bool, true, false, not, nat_lt, List, [], ◌∷◌, Option, Some, None, is_some, is_none, option_map, refl, sym, ◌∙◌, arith, inl, inr, below_more}
use Rattle.std.specs.List.{list_any}
use Rattle.std.proofs.lemmas.Bool.{cases_Bool, both_ways, false_from_ne_true}
use Rattle.mind_base.specs.Page.{PageView}
use Rattle.mind_base.specs.Span.{SpanView, InSpan, in_span}
use Rattle.mind_base.specs.Home.{number_in_homes, home_from, home_of}
use Rattle.mind_base.specs.Cover.{all_below, level}
use Rattle.mind_base.specs.declared.commands.Perm.{Perm}
use Rattle.mind_base.specs.declared.commands.Perm.TheVariants.{No, R, Rw}
use Rattle.mind_base.specs.declared.plans.MemoryPlan.{MemoryPlan}
use Rattle.protect_table.specs.Protect.{FirstPage}
use Rattle.protect_table.proofs.Callers.{all_below-holds, all_below-from}
use Rattle.control_plane.specs.Outcome.{all_in, are_mapped, are_unmapped}

-- one page more
pub all_below-more : (test : ℕ → Bool) (n : ℕ) → all_below test n ≡ true → test n ≡ true → all_below test (n + 1) ≡ true
all_below-more test n so_far here =
    all_below-from test (n + 1) (below_more (λ i. test i ≡ true) n (all_below-holds test n so_far) here)

-- one that fails
pub all_below-fails : (test : ℕ → Bool) (n i : ℕ) → i < n → test i ≡ false → all_below test n ≡ false
all_below-fails test n i lt fails = false_from_ne_true _ (λ e. both_ways _ fails (all_below-holds test n e i lt))

-- what holds of all pages of a run, page by page
pub all_in-holds : (span : SpanView) (test : PageView → Bool) → all_in span test ≡ true → (page : PageView) → InSpan span page → test page ≡ true
all_in-holds span test e page h =
    let number : span.base + (page.number - span.base) ≡ page.number = omega (arith, h.from) in
    let d = h.domain in
    let here = all_below-holds (λ n. test (record { domain = span.domain; number = span.base + n })) span.pages e (page.number - span.base) (omega (arith, h.below, h.from)) in
    let same : test (record { domain = span.domain; number = span.base + (page.number - span.base) }) ≡ test page = rw (number, ← d) refl in
    sym same ∙ here

pub all_in-from : (span : SpanView) (test : PageView → Bool) → ((page : PageView) → InSpan span page → test page ≡ true) → all_in span test ≡ true
all_in-from span test h =
    all_below-from _ span.pages (λ n lt. h (record { domain = span.domain; number = span.base + n }) (record { domain = refl; from = omega arith; below = omega arith }))

is_some-map : (f : ℕ → ℕ) (o : Option ℕ) → is_some (option_map f o) ≡ is_some o
is_some-map f None = refl
is_some-map f (Some n) = refl

is_some-pair : (f : ℕ → ℕ × ℕ) (o : Option ℕ) → is_some (option_map f o) ≡ is_some o
is_some-pair f None = refl
is_some-pair f (Some n) = refl

is_some-place : (spans : List SpanView) (page : PageView) → is_some (number_in_homes spans page) ≡ list_any (λ span. in_span span page) spans
is_some-place [] page = refl
is_some-place (span ∷ spans) page = elim (cases_Bool (in_span span page)) [
  | inl e ↦ rw e refl
  | inr e ↦ rw e (is_some-map (λ n. span.pages + n) (number_in_homes spans page) ∙ is_some-place spans page)
]

is_some-home : (blade : ℕ) (memories : List MemoryPlan) (page : PageView) → is_some (home_from blade memories page) ≡ list_any (λ memory. list_any (λ span. in_span span page) memory.homes) memories
is_some-home blade [] page = refl
is_some-home blade (memory ∷ memories) page = elim (cases_Bool (is_some (number_in_homes memory.homes page))) [
  | inl e ↦
      let f = sym (is_some-place memory.homes page) ∙ e in
      rw (e, f) (is_some-pair (λ n. (blade, n)) (number_in_homes memory.homes page) ∙ e)
  | inr e ↦
      let f = sym (is_some-place memory.homes page) ∙ e in
      rw (e, f) (is_some-home (blade + 1) memories page)
]

-- a page has a home where some run of some memory blade has it
pub is_some-home_of : (memories : List MemoryPlan) (page : PageView) → is_some (home_of memories page) ≡ list_any (λ memory. list_any (λ span. in_span span page) memory.homes) memories
is_some-home_of memories page = is_some-home 0 memories page

none_level : (p : Perm) → ¬ (p ≢ No) → (level p == 0) ≡ true
none_level No h = refl
none_level R h = absurd (h (λ e. cc))
none_level Rw h = absurd (h (λ e. cc))

some_level : (p : Perm) → p ≢ No → nat_lt 0 (level p) ≡ true
some_level No h = absurd (h refl)
some_level R h = refl
some_level Rw h = refl

level_none : (p : Perm) → (level p == 0) ≡ true → p ≡ No
level_none No e = refl
level_none R e = absurd (both_ways false refl e)
level_none Rw e = absurd (both_ways false refl e)

level_some : (p : Perm) → nat_lt 0 (level p) ≡ true → p ≢ No
level_some p e n = both_ways (nat_lt 0 (level p)) (rw n refl) e

-- the first page with a permission, where there is one, says whether all have none
pub unmapped-found : (permissions : PageView → Perm) (span : SpanView) (r : Option PageView) → FirstPage (λ page. permissions page ≢ No) span r → is_none r ≡ are_unmapped permissions span
unmapped-found permissions span None h = sym (all_in-from span _ (λ page within. none_level _ (h page within)))
unmapped-found permissions span (Some page) h =
    sym (false_from_ne_true _ (λ e. h.holds (level_none _ (all_in-holds span (λ p. level (permissions p) == 0) e page h.within))))

pub mapped-found : (permissions : PageView → Perm) (span : SpanView) (r : Option PageView) → FirstPage (λ page. permissions page ≡ No) span r → is_none r ≡ are_mapped permissions span
mapped-found permissions span None h = sym (all_in-from span _ (λ page within. some_level _ (h page within)))
mapped-found permissions span (Some page) h =
    sym (false_from_ne_true _ (λ e. level_some _ (all_in-holds span (λ p. nat_lt 0 (level (permissions p))) e page h.within) h.holds))

pub is_none-by : (o : Option PageView) (b : Bool) → is_some o ≡ not b → b ≡ is_none o
is_none-by None true e = refl
is_none-by None false e = absurd (both_ways false refl e)
is_none-by (Some page) true e = absurd (both_ways false refl (sym e))
is_none-by (Some page) false e = refl

-- whether the first pages of a run have a home
abbrev pub placed_below : List MemoryPlan → SpanView → ℕ → Bool
placed_below memories span n = all_below (λ i. is_some (home_of memories (record { domain = span.domain; number = span.base + i }))) n
