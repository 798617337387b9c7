-- No two pages have one home, and a home is one of the home pages of its memory blade.
use Rattle.std.proofs.Common.{◌≡◌, ◌≢◌, ◌⊎◌, ℕ, zero, suc, ◌+◌, ◌-◌, ◌<◌, ◌≤◌, ◌∙◌, Bool, true, false, cond, List, [], ◌∷◌, slice_get, Option, Some, None, IsSome, inl, inr, refl, sym, ap, subst, arith}
use Rattle.std.specs.List.{AllByRecursion}
use Rattle.std.proofs.lemmas.Option.{same_Some, none-some}
use Rattle.mind_base.specs.Page.{PageView}
use Rattle.mind_base.specs.Span.{SpanView, InSpan, in_span}
use Rattle.mind_base.specs.Home.{number_in_homes, home_from, home_of}
use Rattle.mind_base.specs.Fit.{IsFitMap}
use Rattle.mind_base.specs.Permission.{permission_from}
use Rattle.mind_base.specs.declared.commands.Perm.{Perm}
use Rattle.mind_base.specs.declared.commands.Perm.TheVariants.{No}
use Rattle.mind_base.specs.declared.plans.MapPlan.{MapPlan}
use Rattle.mind_base.specs.declared.plans.MemoryPlan.{MemoryPlan}
use Rattle.range_translate.specs.Place.{pages_of}
use Rattle.range_translate.proofs.Callers.{pages_of-cons, in_span-has, shifted, home_step_value}

-- ---- among the runs of one memory blade

-- a page is in the first run, or its number counts on behind that run
record IsHere (s : SpanView) (page : PageView) (n : ℕ) : Type 0 where
  has : InSpan s page
  is : page.number - s.base ≡ n

record IsLater (s : SpanView) (spans : List SpanView) (page : PageView) (n : ℕ) : Type 0 where
  m : ℕ
  place : number_in_homes spans page ≡ Some m
  is : n ≡ s.pages + m

later : (s : SpanView) (spans : List SpanView) (page : PageView) (n : ℕ) → shifted s.pages (number_in_homes spans page) ≡ Some n → IsLater s spans page n
later s spans page n e = by (number_in_homes spans page) refl e where
  by : (o : Option ℕ) → number_in_homes spans page ≡ o → shifted s.pages o ≡ Some n → IsLater s spans page n
  by None is e = absurd (none-some n e)
  by (Some m) is e = record { m = m; place = is; is = sym (same_Some _ _ e) }

split : (s : SpanView) (spans : List SpanView) (page : PageView) (n : ℕ) → number_in_homes (s ∷ spans) page ≡ Some n → IsHere s page n ⊎ IsLater s spans page n
split s spans page n e = by (in_span s page) refl e where
  by : (b : Bool) → in_span s page ≡ b → cond b (Some (page.number - s.base)) (shifted s.pages (number_in_homes spans page)) ≡ Some n → IsHere s page n ⊎ IsLater s spans page n
  by true is e = inl (record { has = in_span-has s page is; is = same_Some _ _ e })
  by false is e = inr (later s spans page n e)

pub place-below : (spans : List SpanView) (page : PageView) (n : ℕ) → number_in_homes spans page ≡ Some n → n < pages_of spans
place-below [] page n e = absurd (none-some n e)
place-below (s ∷ spans) page n e = let total = pages_of-cons s spans in elim (split s spans page n e) [
  | inl here ↦ (let below = here.has.below in let from = here.has.from in let is = here.is in omega arith)
  | inr more ↦ (let rest = place-below spans page more.m more.place in let is = more.is in omega arith)
]

same-page : (a b : PageView) → a.domain ≡ b.domain → a.number ≡ b.number → a ≡ b
same-page a b d n = λ i. record { domain = d i; number = n i }

both-here : (s : SpanView) (a b : PageView) (n : ℕ) → IsHere s a n → IsHere s b n → a ≡ b
both-here s a b n x y = same-page a b (x.has.domain ∙ sym y.has.domain) (omega (arith, x.has.from, y.has.from, x.is, y.is))

here-later : (s : SpanView) (spans : List SpanView) (a b : PageView) (n : ℕ) → IsHere s a n → IsLater s spans b n → ⊥
here-later s spans a b n x y = omega (arith, x.has.from, x.has.below, x.is, y.is)

pub one-place : (spans : List SpanView) (a b : PageView) (n : ℕ) → number_in_homes spans a ≡ Some n → number_in_homes spans b ≡ Some n → a ≡ b
one-place [] a b n ea eb = absurd (none-some n ea)
one-place (s ∷ spans) a b n ea eb = elim (split s spans a n ea) [
  | inl x ↦ elim (split s spans b n eb) [ inl y ↦ both-here s a b n x y | inr y ↦ absurd (here-later s spans a b n x y) ]
  | inr x ↦ elim (split s spans b n eb) [
    | inl y ↦ absurd (here-later s spans b a n y x)
    | inr y ↦ (let same : y.m ≡ x.m = omega (arith, x.is, y.is) in one-place spans a b x.m x.place (y.place ∙ ap (λ (m : ℕ). Some m) same))
  ]
]

-- ---- among the memory blades

record IsAt (k : ℕ) (memory : MemoryPlan) (page : PageView) (home : ℕ × ℕ) : Type 0 where
  blade : home.0 ≡ k
  place : number_in_homes memory.homes page ≡ Some home.1

at-or-after : (k : ℕ) (memory : MemoryPlan) (memories : List MemoryPlan) (page : PageView) (home : ℕ × ℕ) → home_from k (memory ∷ memories) page ≡ Some home
    → IsAt k memory page home ⊎ (home_from (k + 1) memories page ≡ Some home)
at-or-after k memory memories page home e = by (number_in_homes memory.homes page) refl e where
  by : (o : Option ℕ) → number_in_homes memory.homes page ≡ o → home_step_value k o (home_from (k + 1) memories page) ≡ Some home
      → IsAt k memory page home ⊎ (home_from (k + 1) memories page ≡ Some home)
  by None is e = inr e
  by (Some n) is e = let same : (k, n) ≡ home = same_Some _ _ e in
      inl (record { blade = ap (λ (h : ℕ × ℕ). h.0) (sym same); place = is ∙ ap (λ (h : ℕ × ℕ). Some h.1) same })

from-on : (k : ℕ) (memories : List MemoryPlan) (page : PageView) (home : ℕ × ℕ) → home_from k memories page ≡ Some home → k ≤ home.0
from-on k [] page home e = absurd (none-some home e)
from-on k (memory ∷ memories) page home e = elim (at-or-after k memory memories page home e) [
  | inl here ↦ omega (arith, here.blade)
  | inr after ↦ omega (arith, from-on (k + 1) memories page home after)
]

one-home-from : (k : ℕ) (memories : List MemoryPlan) (a b : PageView) (home : ℕ × ℕ) → home_from k memories a ≡ Some home → home_from k memories b ≡ Some home → a ≡ b
one-home-from k [] a b home ea eb = absurd (none-some home ea)
one-home-from k (memory ∷ memories) a b home ea eb = elim (at-or-after k memory memories a home ea) [
  | inl x ↦ elim (at-or-after k memory memories b home eb) [
    | inl y ↦ one-place memory.homes a b home.1 x.place y.place
    | inr y ↦ absurd (omega (arith, x.blade, from-on (k + 1) memories b home y))
  ]
  | inr x ↦ elim (at-or-after k memory memories b home eb) [
    | inl y ↦ absurd (omega (arith, y.blade, from-on (k + 1) memories a home x))
    | inr y ↦ one-home-from (k + 1) memories a b home x y
  ]
]

-- no two pages have one home
pub one-home : (memories : List MemoryPlan) (a b : PageView) (home : ℕ × ℕ) → home_of memories a ≡ Some home → home_of memories b ≡ Some home → a ≡ b
one-home memories a b home ea eb = one-home-from 0 memories a b home ea eb

below-from : (k i : ℕ) (memories : List MemoryPlan) (memory : MemoryPlan) (page : PageView) (n : ℕ) → slice_get memories i ≡ Some memory → home_from k memories page ≡ Some (k + i, n)
    → n < pages_of memory.homes
below-from k i [] memory page n has e = absurd (none-some (k + i, n) e)
below-from k zero (m ∷ memories) memory page n has e = elim (at-or-after k m memories page (k + 0, n) e) [
  | inl here ↦ subst (λ (p : MemoryPlan). n < pages_of p.homes) (same_Some _ _ has) (place-below m.homes page n here.place)
  | inr after ↦ absurd (omega (arith, from-on (k + 1) memories page (k + 0, n) after))
]
below-from k (suc i) (m ∷ memories) memory page n has e = elim (at-or-after k m memories page (k + suc i, n) e) [
  | inl here ↦ absurd (omega (arith, here.blade))
  | inr after ↦ (let number : k + suc i ≡ (k + 1) + i = omega arith in
      below-from (k + 1) i memories memory page n has (after ∙ ap (λ (j : ℕ). Some (j, n)) number))
]

-- the number of a home is below the number of home pages of its memory blade
pub home-below : (memories : List MemoryPlan) (i : ℕ) (memory : MemoryPlan) (page : PageView) (n : ℕ) → slice_get memories i ≡ Some memory → home_of memories page ≡ Some (i, n)
    → n < pages_of memory.homes
home-below memories i memory page n has e = let number : i ≡ 0 + i = omega arith in below-from 0 i memories memory page n has (e ∙ ap (λ (j : ℕ). Some (j, n)) number)

-- ---- pages with a permission

-- a page with a permission has a home
pub mapped-home : (memories : List MemoryPlan) (perm : Perm) (maps : List MapPlan) (page : PageView) → AllByRecursion (IsFitMap memories) maps
    → (perm ≢ No → IsSome (home_of memories page)) → permission_from perm maps page ≢ No → IsSome (home_of memories page)
mapped-home memories perm [] page all before some = before some
mapped-home memories perm (entry ∷ maps) page all before some = mapped-home memories (cond (in_span entry.span page) entry.perm perm) maps page all.1 (by (in_span entry.span page) refl) some where
  by : (b : Bool) → in_span entry.span page ≡ b → cond b entry.perm perm ≢ No → IsSome (home_of memories page)
  by true is here = (all.0).placed page (in_span-has entry.span page is)
  by false is here = before here
