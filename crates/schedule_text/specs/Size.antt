-- How many threads, compute blades and memory blades a rack has.
use Rattle.std.specs.Prelude.{length}
use Rattle.mind_base.specs.declared.plans.RackPlan.{RackPlan}
use Rattle.schedule_text.specs.declared.sizes.Sizes.{Sizes}

abbrev pub sizes_of : RackPlan → Sizes
sizes_of plan = record { threads = length plan.threads; blades = length plan.frames; memories = length plan.memories }
