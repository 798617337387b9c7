-- Threads that buffer nothing in a span.
use Rattle.std.proofs.Common.{◌≡◌, ℕ, zero, suc, ◌<◌, ◌≤◌, min, false, List, [], ◌∷◌, length, get_or, drop, refl, sym, subst, arith}
use Rattle.std.specs.List.{AllByRecursion}
use Rattle.std.proofs.lemmas.List.{length-drop}
use Rattle.mind_base.specs.Span.{SpanView}
use Rattle.mind_base.specs.Fit.{IsFit, IsFitThread}
use Rattle.mind_base.specs.declared.plans.RackPlan.{RackPlan}
use Rattle.mind_base.specs.declared.plans.ThreadPlan.{ThreadPlan}
use Rattle.hart_effect.specs.Thread.{Thread}
use Rattle.tso_machine.specs.Commands.{is_buffered}

no-threads : (span : SpanView) (plans : List ThreadPlan) (threads : List Thread) → min (length plans) (length threads) ≤ 0 → is_buffered span plans threads ≡ false
no-threads span [] threads none = refl
no-threads span (plan ∷ plans) [] none = refl
no-threads span (plan ∷ plans) (thread ∷ threads) none = absurd (omega arith)

-- behind the last thread none buffers anything
pub past-threads : (span : SpanView) (plans : List ThreadPlan) (threads : List Thread) (i : ℕ) → min (length plans) (length threads) ≤ i
    → is_buffered span (drop i plans) (drop i threads) ≡ false
past-threads span plans threads i past = no-threads span (drop i plans) (drop i threads) (omega (arith, length-drop i plans, length-drop i threads))

-- a thread of a fit plan is of one of the 16 domains
domain-at : (blades images i : ℕ) (threads : List ThreadPlan) (thread : ThreadPlan) → AllByRecursion (IsFitThread blades images) threads
    → i < length threads → thread ≡ get_or threads i thread → thread.domain < 16
domain-at blades images i [] thread fit within is = absurd (omega arith)
domain-at blades images zero (t ∷ threads) thread fit within is = let fits = fit.0 in subst (λ t. t.domain < 16) (sym is) fits.domain
domain-at blades images (suc i) (t ∷ threads) thread fit within is = domain-at blades images i threads thread fit.1 (omega arith) is

pub fit_domain : (plan : RackPlan) (threads : List ThreadPlan) (i : ℕ) (thread : ThreadPlan) → IsFit plan → threads ≡ plan.threads
    → i < length threads → thread ≡ get_or threads i thread → thread.domain < 16
fit_domain plan threads i thread fit same within is =
    let P : List ThreadPlan → Type 0 = λ ts. AllByRecursion (IsFitThread (length plan.frames) (length plan.images)) ts in
    domain-at (length plan.frames) (length plan.images) i threads thread (subst P (sym same) fit.each_thread) within is
