-- How many pages homes have.
use Rattle.std.proofs.Common.{◌≡◌, ℕ, ◌+◌, ◌-◌, ◌<◌, ◌≤◌, ◌∙◌, List, [], ◌∷◌, ◌++◌, length, drop, get_or, sym, ap, None, arith, zero-add}
use Rattle.std.proofs.lemmas.List.{drop_more}
use Rattle.std.proofs.lemmas.Grind.{common_steps}
use Rattle.std.proofs.lemmas.List.Sums.{sum-map, sum_by-cons}
use Rattle.mind_base.specs.Span.{SpanView}
use Rattle.mind_base.specs.Fit.{all_homes}
use Rattle.mind_base.specs.declared.plans.MemoryPlan.{MemoryPlan}
use Rattle.rack_file.specs.Tables.{page_count, all_home_pages, left_after}

-- ---- how many pages runs have

pages-cons : (x : SpanView) (xs : List SpanView) → page_count (x ∷ xs) ≡ x.pages + page_count xs
pages-cons x xs = sum-map (λ s. s.pages) (x ∷ xs) ∙ (sum_by-cons (λ s. s.pages) x xs ∙ ap (λ n. x.pages + n) (sym (sum-map (λ s. s.pages) xs)))

pub pages-step : (spans : List SpanView) (i : ℕ) (d : SpanView) → i < length spans → page_count (drop i spans) ≡ (get_or spans i d).pages + page_count (drop (i + 1) spans)
pages-step spans i d lt = ap page_count (drop_more spans i d lt) ∙ pages-cons (get_or spans i d) (drop (i + 1) spans)

pages-append : (xs ys : List SpanView) → page_count (xs ++ ys) ≡ page_count xs + page_count ys
pages-append [] ys = sym (zero-add (page_count ys))
pages-append (x ∷ xs) ys = omega (arith, pages-append xs ys, pages-cons x (xs ++ ys), pages-cons x xs)

pub homes-step : (ms : List MemoryPlan) (i : ℕ) (d : MemoryPlan) → i < length ms → all_home_pages (drop i ms) ≡ page_count (get_or ms i d).homes + all_home_pages (drop (i + 1) ms)
homes-step ms i d lt = ap all_home_pages (drop_more ms i d lt) ∙ pages-append (get_or ms i d).homes (all_homes (drop (i + 1) ms))

pub left-step : (left a rest : ℕ) → a ≤ left → left_after (left - a) rest ≡ left_after left (a + rest)
left-step left a rest le = grind (arith, common_steps)

pub left-none : (left a rest : ℕ) → left < a → None ≡ left_after left (a + rest)
left-none left a rest lt = grind (arith, common_steps)
