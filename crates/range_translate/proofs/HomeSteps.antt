-- Steps of the look-ups of a page among homes.
use Rattle.std.proofs.Common.{◌≡◌, ℕ, zero, suc, ◌+◌, ◌-◌, ◌<◌, Bool, true, false, cond, List, [], ◌∷◌, length, drop, get_or, Option, Some, None, is_some, subst, refl, sym, ap, ◌∙◌, arith}
use Rattle.std.specs.Option.{option_map}
use Rattle.std.proofs.lemmas.List.{at_drop_more}
use Rattle.std.proofs.lemmas.Bool.Decides.{nat_tests}
use Rattle.mind_base.specs.Page.{PageView}
use Rattle.mind_base.specs.Span.{SpanView, InSpan, in_span}
use Rattle.mind_base.specs.Home.{number_in_homes, home_from}
use Rattle.mind_base.specs.Fit.{AreApart, all_homes}
use Rattle.mind_base.specs.declared.plans.MemoryPlan.{MemoryPlan}
use Rattle.range_translate.proofs.Apart.{AreApart-front, AreApart-rest}

pub in_span-true : (s : SpanView) (page : PageView) → InSpan s page → in_span s page ≡ true
in_span-true s page h = let a = h.domain in let b = h.from in let c = h.below in grind (arith, nat_tests)

pub in_span-has : (s : SpanView) (page : PageView) → in_span s page ≡ true → InSpan s page
in_span-has s page h = record { domain = grind (arith, nat_tests); from = grind (arith, nat_tests); below = grind (arith, nat_tests) }

abbrev pub shifted : ℕ → Option ℕ → Option ℕ
shifted k o = option_map (λ n. k + n) o

pub shifted-zero : (o : Option ℕ) → shifted 0 o ≡ o
shifted-zero None = refl
shifted-zero (Some n) = ap (λ (m : ℕ). Some m) (omega arith)

pub shifted-shifted : (j k : ℕ) (o : Option ℕ) → shifted j (shifted k o) ≡ shifted (j + k) o
shifted-shifted j k None = refl
shifted-shifted j k (Some n) = ap (λ (m : ℕ). Some m) (omega arith)

place_step : (s : SpanView) (rest : List SpanView) (page : PageView) (b : Bool) → in_span s page ≡ b →
    number_in_homes (s ∷ rest) page ≡ cond b (Some (page.number - s.base)) (shifted s.pages (number_in_homes rest page))
place_step s rest page b e = ap (λ (t : Bool). cond t (Some (page.number - s.base)) (shifted s.pages (number_in_homes rest page))) e

pub found_in : (homes : List SpanView) (i before : ℕ) (s : SpanView) (page : PageView) → i < length homes → s ≡ get_or homes i s → InSpan s page →
    shifted before (number_in_homes (drop i homes) page) ≡ number_in_homes homes page → Some (before + (page.number - s.base)) ≡ number_in_homes homes page
found_in homes i before s page within read has so_far =
    sym (ap (shifted before) (at_drop_more (λ (hs : List SpanView). number_in_homes hs page) homes i s within
    ∙ ap (λ (x : SpanView). number_in_homes (x ∷ drop (i + 1) homes) page) (sym read) ∙ place_step s (drop (i + 1) homes) page true (in_span-true s page has))) ∙ so_far

pub not_in : (homes : List SpanView) (i before : ℕ) (s : SpanView) (page : PageView) → i < length homes → s ≡ get_or homes i s → in_span s page ≡ false →
    shifted before (number_in_homes (drop i homes) page) ≡ number_in_homes homes page → shifted (before + s.pages) (number_in_homes (drop (i + 1) homes) page) ≡ number_in_homes homes page
not_in homes i before s page within read has so_far =
    sym (shifted-shifted before s.pages (number_in_homes (drop (i + 1) homes) page))
    ∙ sym (ap (shifted before) (at_drop_more (λ (hs : List SpanView). number_in_homes hs page) homes i s within
    ∙ ap (λ (x : SpanView). number_in_homes (x ∷ drop (i + 1) homes) page) (sym read) ∙ place_step s (drop (i + 1) homes) page false has)) ∙ so_far

-- the homes of one memory blade
pub AreApart-one : (memories : List MemoryPlan) (i : ℕ) (m : MemoryPlan) → AreApart (all_homes memories) → i < length memories → m ≡ get_or memories i m → AreApart m.homes
AreApart-one [] i m apart within read = absurd (omega (arith, within))
AreApart-one (x ∷ ms) zero m apart within read = subst (λ (p : MemoryPlan). AreApart p.homes) (sym read) (AreApart-front x.homes (all_homes ms) apart)
AreApart-one (x ∷ ms) (suc i) m apart within read = AreApart-one ms i m (AreApart-rest x.homes (all_homes ms) apart) (omega (arith, within)) read

abbrev pub home_step_value : ℕ → Option ℕ → Option (ℕ × ℕ) → Option (ℕ × ℕ)
home_step_value blade place rest = cond (is_some place) (option_map (λ n. (blade, n)) place) rest

pub home_found : (memories : List MemoryPlan) (i n : ℕ) (m : MemoryPlan) (page : PageView) (all : Option (ℕ × ℕ)) → i < length memories → m ≡ get_or memories i m → number_in_homes m.homes page ≡ Some n →
    home_from i (drop i memories) page ≡ all → Some (i, n) ≡ all
home_found memories i n m page all within read has so_far =
    sym (at_drop_more (λ (ms : List MemoryPlan). home_from i ms page) memories i m within
    ∙ ap (λ (x : MemoryPlan). home_from i (x ∷ drop (i + 1) memories) page) (sym read)
    ∙ ap (λ (o : Option ℕ). home_step_value i o (home_from (i + 1) (drop (i + 1) memories) page)) has) ∙ so_far

pub home_elsewhere : (memories : List MemoryPlan) (i : ℕ) (m : MemoryPlan) (page : PageView) (all : Option (ℕ × ℕ)) → i < length memories → m ≡ get_or memories i m → number_in_homes m.homes page ≡ None →
    home_from i (drop i memories) page ≡ all → home_from (i + 1) (drop (i + 1) memories) page ≡ all
home_elsewhere memories i m page all within read has so_far =
    sym (at_drop_more (λ (ms : List MemoryPlan). home_from i ms page) memories i m within
    ∙ ap (λ (x : MemoryPlan). home_from i (x ∷ drop (i + 1) memories) page) (sym read)
    ∙ ap (λ (o : Option ℕ). home_step_value i o (home_from (i + 1) (drop (i + 1) memories) page)) has) ∙ so_far

pub not_in_span : (s : SpanView) (page : PageView) → (InSpan s page → ⊥) → in_span s page ≡ false
not_in_span s page h = elim (in_span s page) as (λ b. in_span s page ≡ b → b ≡ false) [ true ↦ λ e. absurd (h (in_span-has s page e)) | false ↦ λ e. refl ] refl
