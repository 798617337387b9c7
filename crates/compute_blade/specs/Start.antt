-- A blade that starts.
use Rattle.std.specs.Prelude.{ℕ, ◌==◌, [], map, slice_index, Option, Some, None, if◌then◌else◌}
use Rattle.mind_base.specs.declared.plans.RackPlan.{RackPlan}
use Rattle.mind_base.specs.declared.plans.ThreadPlan.{ThreadPlan}
use Rattle.mind_base.specs.Plan.{image_place}
use Rattle.compute_blade.specs.Blade.{HartView, BladeView}
use Rattle.compute_blade.specs.Harts.{first_hart}

-- the hart of a thread, where the thread is the blade's
abbrev pub hart_for : RackPlan → ℕ → ThreadPlan → Option HartView
hart_for plan number thread =
    if thread.blade == number then Some (first_hart (image_place plan.images thread.image) thread.queue) else None

-- the harts of the blade's threads at the start of their images, an empty cache of the blade's frames,
-- and no request
abbrev pub first_blade : RackPlan → ℕ → BladeView
first_blade plan number = record {
  plan = plan;
  number = number;
  harts = map (hart_for plan number) plan.threads;
  cache = record { entries = []; frames = slice_index plan.frames number };
  requests = [];
}
