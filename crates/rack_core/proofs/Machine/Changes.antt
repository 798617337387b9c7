-- One hart of the rack changed, and every other is where it was, as it was.
use Rattle.std.proofs.Common.{◌≡◌, ℕ, ◌==◌, ◌∙◌, Bool, true, false, ap, sym, refl, Option, Some, None, slice_get, slice_set}
use Rattle.std.specs.Prelude.{option_and_then}
use Rattle.std.proofs.lemmas.Bool.{eqb-true}
use Rattle.std.proofs.lemmas.Option.{same_Some}
use Rattle.compute_blade.specs.Blade.{HartView, BladeView, hart_of}
use Rattle.rack_core.specs.Rack.{RackView}
use Rattle.rack_core.specs.Stands.{IsHartAt}
use Rattle.rack_core.proofs.Lists.Lookups.{slice_get-set, slice_get-set_other}

-- hart h of the rack became another
pub record OneChanged (h : ℕ) (was now : HartView) (old new : RackView) : Type 0 where
  pub before : IsHartAt old h was
  pub own : (hart : HartView) → IsHartAt new h hart → hart ≡ now
  pub others : (n : ℕ) (hart : HartView) → (n == h) ≡ false → IsHartAt new n hart → IsHartAt old n hart

-- a hart that a blade has stands at its number
pub has-place : (found : Option (Option HartView)) (hart : HartView) → option_and_then (λ own. own) found ≡ Some hart → found ≡ Some (Some hart)
has-place None hart e = let never : ⊥ = cc in absurd never
has-place (Some own) hart e = ap (λ o. Some o) e

-- the rack after a blade changed one of its harts
pub one-changed : (h : ℕ) (was now : HartView) (old new : RackView) (at : IsHartAt old h was) (changed : BladeView) → new.plan ≡ old.plan
    → new.blades ≡ slice_set old.blades at.plan.blade changed → changed.harts ≡ slice_set at.blade.harts h (Some now) → OneChanged h was now old new
one-changed h was now old new at changed planned blades harts = record { before = at; own = own; others = others } where
  threads : (n : ℕ) (hart : HartView) (there : IsHartAt new n hart) → slice_get old.plan.threads n ≡ Some there.plan
  threads n hart there = ap (λ plan. slice_get plan.threads n) (sym planned) ∙ there.thread

  here : slice_get new.blades at.plan.blade ≡ Some changed
  here = ap (λ all. slice_get all at.plan.blade) blades ∙ slice_get-set old.blades at.plan.blade at.blade changed at.there

  away : (n : ℕ) → (n == at.plan.blade) ≡ false → slice_get new.blades n ≡ slice_get old.blades n
  away n e = ap (λ all. slice_get all n) blades ∙ slice_get-set_other old.blades at.plan.blade changed n e

  -- the harts of the blade
  hart-here : hart_of changed h ≡ Some now
  hart-here = ap (λ all. option_and_then (λ own. own) (slice_get all h)) harts
      ∙ ap (option_and_then (λ own. own)) (slice_get-set at.blade.harts h (Some was) (Some now) (has-place (slice_get at.blade.harts h) was at.own))

  hart-away : (n : ℕ) → (n == h) ≡ false → hart_of changed n ≡ hart_of at.blade n
  hart-away n e = ap (λ all. option_and_then (λ own. own) (slice_get all n)) harts
      ∙ ap (option_and_then (λ own. own)) (slice_get-set_other at.blade.harts h (Some now) n e)

  own : (hart : HartView) → IsHartAt new h hart → hart ≡ now
  own hart there =
      let plan : there.plan ≡ at.plan = same_Some there.plan at.plan (sym (threads h hart there) ∙ at.thread) in
      let blade : there.blade ≡ changed = same_Some there.blade changed (sym there.there ∙ ap (λ p. slice_get new.blades p.blade) plan ∙ here) in
      same_Some hart now (sym there.own ∙ ap (λ b. hart_of b h) blade ∙ hart-here)

  others : (n : ℕ) (hart : HartView) → (n == h) ≡ false → IsHartAt new n hart → IsHartAt old n hart
  others n hart e there = by (there.plan.blade == at.plan.blade) refl where
    by : (b : Bool) → (there.plan.blade == at.plan.blade) ≡ b → IsHartAt old n hart
    by true s =
        let number : there.plan.blade ≡ at.plan.blade = eqb-true there.plan.blade at.plan.blade s in
        let blade : there.blade ≡ changed = same_Some there.blade changed (sym there.there ∙ ap (λ k. slice_get new.blades k) number ∙ here) in
        record {
          plan = there.plan;
          blade = at.blade;
          thread = threads n hart there;
          there = ap (λ k. slice_get old.blades k) number ∙ at.there;
          own = sym (hart-away n e) ∙ ap (λ b. hart_of b n) (sym blade) ∙ there.own;
        }
    by false s = record {
      plan = there.plan;
      blade = there.blade;
      thread = threads n hart there;
      there = sym (away there.plan.blade s) ∙ there.there;
      own = there.own;
    }
