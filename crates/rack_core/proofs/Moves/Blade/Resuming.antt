-- What holds of a step that goes on with what it waited for, by what it comes upon.
use Rattle.std.proofs.Common.{◌≡◌, ℕ, Bool, true, false, not, ◌&&◌, refl, List, Option, Some, None, slice_get, option_map, unwrap_or}
use Rattle.std.specs.Prelude.{if◌then◌else◌}
use Rattle.mind_base.specs.declared.ends.End.{End}
use Rattle.mind_base.specs.declared.ends.End.TheVariants.{Running, Exit, Fault}
use Rattle.mind_base.specs.declared.images.Image.{Image}
use Rattle.mind_base.specs.declared.plans.ThreadPlan.{ThreadPlan}
use Rattle.hart_effect.specs.Deed.{found, drains_first}
use Rattle.compute_blade.specs.Blade.{BladeView, BladeEffect, HartView, only}
use Rattle.compute_blade.specs.Messages.{answered_by, needs_just, resumed_with, resumed_at}
use Rattle.compute_blade.specs.Steps.{need_in}
use Rattle.compute_blade.specs.declared.kept.Answer.{Answer}
use Rattle.compute_blade.specs.declared.kept.Need.{Need}

-- It holds where nothing is done, and where the instruction at the hart's pc is answered, which needs just what was
-- asked for, with no store that must drain first.
pub resumes-as : (P : BladeEffect → Type 0) (answer : Answer) (asked : Need) (images : List Image) (h : ℕ) (plan : ThreadPlan) (blade : BladeView) (hart : HartView) → P (only blade)
    → ((image : Image) (pc : ℕ) → slice_get images plan.image ≡ Some image → hart.end ≡ Running pc → needs_just asked (need_in (found image hart.regs pc) plan.domain) ≡ true
    → drains_first (found image hart.regs pc) hart.queue.stores hart.queue.capacity ≡ false → P (answered_by answer h plan (found image hart.regs pc) pc blade hart))
    → P (resumed_at hart.end answer asked images h plan blade hart)
resumes-as P answer asked images h plan blade hart idle goes = at hart.end refl where
  with_found : (image : Image) (pc : ℕ) → slice_get images plan.image ≡ Some image → hart.end ≡ Running pc → P (resumed_with answer asked h plan (found image hart.regs pc) pc blade hart)
  with_found image pc code runs =
      by (needs_just asked (need_in (found image hart.regs pc) plan.domain)) refl (drains_first (found image hart.regs pc) hart.queue.stores hart.queue.capacity) refl where
        by : (b : Bool) → needs_just asked (need_in (found image hart.regs pc) plan.domain) ≡ b → (r : Bool) → drains_first (found image hart.regs pc) hart.queue.stores hart.queue.capacity ≡ r
            → P (if b && not r then answered_by answer h plan (found image hart.regs pc) pc blade hart else only blade)
        by true e false f = goes image pc code runs e f
        by true e true f = idle
        by false e r f = idle

  in_code : (pc : ℕ) → hart.end ≡ Running pc → (code : Option Image) → slice_get images plan.image ≡ code
      → P (unwrap_or (option_map (λ image. resumed_with answer asked h plan (found image hart.regs pc) pc blade hart) code) (only blade))
  in_code pc runs None e = idle
  in_code pc runs (Some image) e = with_found image pc e runs

  at : (end : End) → hart.end ≡ end → P (resumed_at end answer asked images h plan blade hart)
  at (Running pc) runs = in_code pc runs (slice_get images plan.image) refl
  at (Exit value) runs = idle
  at (Fault kind value pc) runs = idle
