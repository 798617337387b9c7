use Rattle.std.proofs.Common.{◌≡◌, ℕ, ◌<◌, ◌≤◌, ◌-◌, true, false, inl, inr, ap, subst, sym, ◌∙◌, arith}
use Rattle.std.specs.List.{list_all}
use Rattle.mind_base.specs.Range.{RangeView}
use Rattle.std.proofs.lemmas.Bool.{cases_lt, false≢true}
use Rattle.region_directory.specs.Block.{are_apart, block_of}
use Rattle.region_directory.specs.Entry.{largest_free, MeetsNone}
use Rattle.region_directory.proofs.SearchLemmas.{test-from_free, largest_free-here, largest_free-smaller}
use Rattle.region_directory.proofs.searches.largest_free.Goals as goal

pub loop-size-preserved : goal.loop-size-preserved
loop-size-preserved c =
    let es = c.args.entries.now in
    let here : MeetsNone es (block_of c.args.page.now c.loop-size.size) → ⊥ = λ free.
    let block : MeetsNone es c.block_around-block.result = subst (MeetsNone es) (sym c.block_around-block.ensures) free in
    false≢true (sym c.if-is_free.false ∙ c.is_free.ensures ∙ test-from_free es c.block_around-block.result block) in
    let each : (k : ℕ) → c.loop-size.size - 1 < k → k ≤ c.args.log → MeetsNone es (block_of c.args.page.now k) → ⊥ = λ k lo hi free.
    elim (cases_lt c.loop-size.size k) [
      | inl lt ↦ c.loop-size.invariant.1 k lt hi free
      | inr le ↦ let same : k ≡ c.loop-size.size = omega arith in here (subst (λ n. MeetsNone es (block_of c.args.page.now n)) same free)
    ] in
    let taken : list_all (λ entry. are_apart entry.range (block_of c.args.page.now c.loop-size.size)) es ≡ false =
    ap (λ (r : RangeView). list_all (λ entry. are_apart entry.range r) es) (sym c.block_around-block.ensures) ∙ sym c.is_free.ensures ∙ c.if-is_free.false in
    let smaller : largest_free es c.args.page.now c.loop-size.size ≡ largest_free es c.args.page.now (c.loop-size.size - 1) = largest_free-smaller es c.args.page.now c.loop-size.size (omega arith) taken in
    (omega (arith, c.loop-size.invariant.0), each, sym smaller ∙ c.loop-size.invariant.2)

pub returns-then-is_free-clause-new : goal.returns-then-is_free-clause-new
returns-then-is_free-clause-new c =
    let es = c.args.entries.now in
    let free : list_all (λ entry. are_apart entry.range (block_of c.args.page.now c.loop-size.size)) es ≡ true =
    ap (λ (r : RangeView). list_all (λ entry. are_apart entry.range r) es) (sym c.block_around-block.ensures) ∙ sym c.is_free.ensures ∙ c.if-is_free.true in
    let here : largest_free es c.args.page.now c.loop-size.size ≡ block_of c.args.page.now c.loop-size.size = largest_free-here es c.args.page.now c.loop-size.size (omega arith) free in
    c.block_around-block.ensures ∙ sym here ∙ c.loop-size.invariant.2

pub returns-clause-new : goal.returns-clause-new
returns-clause-new c =
    let none : 0 ≡ c.loop-size.size = omega arith in
    c.block_around.ensures ∙ ap (largest_free c.args.entries.now c.args.page.now) none ∙ c.loop-size.invariant.2
