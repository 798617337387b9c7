-- A blade that starts is sound.
use Rattle.std.proofs.Common.{◌≡◌, ℕ, zero, suc, ◌<◌, ◌==◌, Bool, true, false, ap, sym, subst, List, [], ◌∷◌, map, Some, None, arith, ◌∙◌}
use Rattle.std.specs.Prelude.{if◌then◌else◌, slice_index}
use Rattle.std.specs.List.{IsDistinct}
use Rattle.std.proofs.lemmas.Option.{same_Some}
use Rattle.mind_base.specs.Page.{PageView}
use Rattle.mind_base.specs.declared.commands.Perm.{Perm}
use Rattle.mind_base.specs.declared.plans.RackPlan.{RackPlan}
use Rattle.mind_base.specs.declared.plans.ThreadPlan.{ThreadPlan}
use Rattle.mind_base.specs.Plan.{image_place}
use Rattle.compute_blade.specs.Blade.{HartView}
use Rattle.compute_blade.specs.Harts.{first_hart}
use Rattle.compute_blade.specs.Start.{first_blade, hart_for}
use Rattle.rack_core.specs.BladeMoves.{hart_in, IsSoundBlade, MayWriteAll}

-- a hart that starts has an empty queue
started : (plan : RackPlan) (number : ℕ) (thread : ThreadPlan) (hart : HartView) → hart_for plan number thread ≡ Some hart → hart.queue.stores ≡ []
started plan number thread hart e = by (thread.blade == number) e where
  by : (b : Bool) → (if b then Some (first_hart (image_place plan.images thread.image) thread.queue) else None) ≡ Some hart → hart.queue.stores ≡ []
  by true e = ap (λ (h : HartView). h.queue.stores) (sym (same_Some _ _ e))
  by false e = let never : ⊥ = cc in absurd never

starting : (plan : RackPlan) (number : ℕ) (threads : List ThreadPlan) (h : ℕ) (hart : HartView) → hart_in (map (hart_for plan number) threads) h ≡ Some hart → hart.queue.stores ≡ []
starting plan number [] h hart e = let never : ⊥ = cc in absurd never
starting plan number (thread ∷ threads) zero hart e = started plan number thread hart e
starting plan number (thread ∷ threads) (suc h) hart e = starting plan number threads h hart e

-- and waits for nothing
resting : (plan : RackPlan) (number : ℕ) (thread : ThreadPlan) (hart : HartView) → hart_for plan number thread ≡ Some hart → (hart.stepping ≡ false) × (hart.draining ≡ false)
resting plan number thread hart e = by (thread.blade == number) e where
  by : (b : Bool) → (if b then Some (first_hart (image_place plan.images thread.image) thread.queue) else None) ≡ Some hart → (hart.stepping ≡ false) × (hart.draining ≡ false)
  by true e = (ap (λ (h : HartView). h.stepping) (sym (same_Some _ _ e)), ap (λ (h : HartView). h.draining) (sym (same_Some _ _ e)))
  by false e = let never : ⊥ = cc in absurd never

all-resting : (plan : RackPlan) (number : ℕ) (threads : List ThreadPlan) (h : ℕ) (hart : HartView) → hart_in (map (hart_for plan number) threads) h ≡ Some hart → (hart.stepping ≡ false) × (hart.draining ≡ false)
all-resting plan number [] h hart e = let never : ⊥ = cc in absurd never
all-resting plan number (thread ∷ threads) zero hart e = resting plan number thread hart e
all-resting plan number (thread ∷ threads) (suc h) hart e = all-resting plan number threads h hart e

never_both : (b : Bool) → b ≡ false → b ≡ true → ⊥
never_both b f t = let never : false ≡ true = sym f ∙ t in cc

pub first_sound : (perms : PageView → Perm) (plan : RackPlan) (number : ℕ) → 0 < slice_index plan.frames number → IsSoundBlade perms (first_blade plan number)
unfolding IsDistinct
first_sound perms plan number some = record {
  cache = record { some = some; fits = omega arith; distinct = tt };
  apart = tt;
  waiters = tt;
  requests = tt;
  waiting = λ h hart own. let rest = all-resting plan number plan.threads h hart own in
      record { step = λ s. absurd (never_both hart.stepping rest.0 s); drain = λ d. absurd (never_both hart.draining rest.1 d) };
  stores = λ h thread hart t own. subst (MayWriteAll perms thread.domain) (sym (starting plan number plan.threads h hart own)) tt;
}
