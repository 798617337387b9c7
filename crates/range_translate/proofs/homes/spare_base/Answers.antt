use Rattle.std.proofs.Common.{◌≡◌, ℕ, Some, refl, subst, sym, ap, ◌∙◌}
use Rattle.std.specs.Option.{option_map}
use Rattle.std.proofs.lemmas.Option.{slice_get-map, slice_get_read}
use Rattle.mind_base.specs.Fit.{AreApart}
use Rattle.mind_base.specs.declared.plans.MemoryPlan.{MemoryPlan}
use Rattle.range_translate.specs.Place.{pages_of}
use Rattle.range_translate.proofs.HomeSteps.{AreApart-one}
use Rattle.range_translate.proofs.homes.spare_base.Goals as goal

pub pages_of-requires : goal.pages_of-requires
pages_of-requires c =
    let m = c.index-memories-memory in
    subst AreApart (sym (c.as_slice.ensures ∙ ap (λ (p : MemoryPlan). p.homes) (sym m.is)))
    (AreApart-one c.args.memories.now c.args.memory m.result c.requires.apart c.requires.there m.is)

pub returns-clause-pages : goal.returns-clause-pages
returns-clause-pages c =
    let m = c.index-memories-memory in
    let pages : c.pages_of.result ≡ pages_of m.result.homes = c.pages_of.ensures.pages ∙ ap pages_of (c.as_slice.ensures ∙ ap (λ (p : MemoryPlan). p.homes) (sym m.is)) in
    slice_get-map (λ (p : MemoryPlan). pages_of p.homes) c.args.memories.now c.args.memory
    ∙ ap (option_map (λ (p : MemoryPlan). pages_of p.homes)) (slice_get_read c.args.memories.now _ c.args.memory m.result refl c.requires.there m.is)
    ∙ ap (λ (n : ℕ). Some n) (sym pages)
