-- What holds of the whole schedule that is made for a rack.
use Rattle.std.proofs.Common.{◌≡◌, ℕ, ◌+◌, ◌≤◌, ◌∙◌, length, Ok, arith}
use Rattle.std.specs.List.{AllByRecursion}
use Rattle.std.proofs.lemmas.List.{length-map}
use Rattle.mind_base.specs.Fit.{Within}
use Rattle.mind_base.specs.declared.plans.RackPlan.{RackPlan}
use Rattle.schedule_text.specs.Event.{IsEventOf}
use Rattle.schedule_text.specs.Schedule.{schedule_in}
use Rattle.schedule_text.specs.Size.{sizes_of}
use Rattle.rack_gen.specs.Line.{event_of}
use Rattle.rack_gen.specs.Generator.{lines_for, generated, generated_text}
use Rattle.rack_gen.proofs.Fitting.{IsLineIn, all_fit, length_lines, events_fit}
use Rattle.rack_gen.proofs.Reading.{IsSmall, reads_all, text_short}

-- the rack has threads and blades, and as many as a rack may have
pub record IsSized (plan : RackPlan) : Type 0 where
  pub threads : Within 1 64 (length plan.threads)
  pub blades : Within 1 8 (length plan.frames)
  pub memories : Within 1 8 (length plan.memories)

small : (plan : RackPlan) → IsSized plan → IsSmall (sizes_of plan)
small plan sized = record { threads = sized.threads.1; blades = omega (arith, sized.blades.1); memories = omega (arith, sized.memories.1) }

fit : (plan : RackPlan) (count seed : ℕ) → IsSized plan → AllByRecursion (IsLineIn (sizes_of plan)) (lines_for (sizes_of plan) count seed)
fit plan count seed sized = all_fit (sizes_of plan) count seed (omega (arith, sized.threads.0)) (omega (arith, sized.blades.0))

pub text_reads : (plan : RackPlan) (count seed : ℕ) → IsSized plan → count ≤ 200000 → schedule_in plan (generated_text plan count seed) ≡ Ok (generated plan count seed)
unfolding schedule_in
text_reads plan count seed sized few =
    reads_all (sizes_of plan) (lines_for (sizes_of plan) count seed) (small plan sized) (fit plan count seed sized) (omega (arith, few, length_lines (sizes_of plan) count seed))

pub text_fits : (plan : RackPlan) (count seed : ℕ) → IsSized plan → count ≤ 200000 → length (generated_text plan count seed) ≤ 4194304
text_fits plan count seed sized few = omega (
  arith,
  few,
  length_lines (sizes_of plan) count seed,
  text_short (sizes_of plan) (lines_for (sizes_of plan) count seed) (small plan sized) (fit plan count seed sized),
)

pub length_events : (plan : RackPlan) (count seed : ℕ) → length (generated plan count seed) ≡ count + 1
length_events plan count seed = length-map (lines_for (sizes_of plan) count seed) event_of ∙ length_lines (sizes_of plan) count seed

pub events_numbers : (plan : RackPlan) (count seed : ℕ) → IsSized plan → AllByRecursion (IsEventOf plan) (generated plan count seed)
events_numbers plan count seed sized = events_fit (sizes_of plan) (lines_for (sizes_of plan) count seed) (fit plan count seed sized)
