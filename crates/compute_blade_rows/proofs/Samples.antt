-- The blade of the tests is ready, and stays so.
use Rattle.std.proofs.Common.{◌≡◌, ◌==◌, List, Option, Some, None, eq-eqb, slice_get, refl, sym, subst, ap, ◌∙◌}
use Rattle.std.specs.Prelude.{IsSomeAnd}
use Rattle.mind_base.specs.Fit.{FitImages}
use Rattle.mind_base.specs.declared.images.Image.{Image}
use Rattle.mind_base.specs.declared.plans.RackPlan.{RackPlan}
use Rattle.mind_base.specs.declared.plans.ThreadPlan.{ThreadPlan}
use Rattle.compute_blade.specs.Blade.{BladeView, IsBlade, StaysBlade}
use Rattle.compute_blade.specs.Start.{first_blade}
use Rattle.compute_blade.proofs.Callers.{own_kept}
use Rattle.compute_blade_rows.specs.Ready.{IsReady}

pub starts_ready : (plan : RackPlan) (blade : BladeView) (images : List Image) → IsBlade blade → blade ≡ first_blade plan 0
    → IsSomeAnd (slice_get plan.threads 0) (λ thread. thread.blade ≡ 0) → FitImages plan.images images → IsReady blade images
starts_ready plan blade images shape is own fit = by (slice_get plan.threads 0) refl own where
  by : (o : Option ThreadPlan) → slice_get plan.threads 0 ≡ o → IsSomeAnd o (λ thread. thread.blade ≡ 0) → IsReady blade images
  by None e own = absurd own
  by (Some thread) e own =
      let planned : slice_get blade.plan.threads 0 ≡ Some thread = ap (λ (b : BladeView). slice_get b.plan.threads 0) is ∙ e in
      record {
        shape = shape;
        own = shape.own 0 thread planned ∙ (ap (λ (b : BladeView). thread.blade == b.number) is ∙ eq-eqb thread.blade 0 own);
        fit = subst (λ (b : BladeView). FitImages b.plan.images images) (sym is) fit;
      }

pub stays_ready : (old new : BladeView) (images : List Image) → StaysBlade old new → IsReady old images → IsReady new images
stays_ready old new images kept ready = record {
  shape = kept.shape;
  own = own_kept old new ready.shape kept 0 ∙ ready.own;
  fit = subst (λ plan. FitImages plan.images images) (sym kept.plan) ready.fit;
}
