-- Threads are as many as before.
use Rattle.std.proofs.Common.{◌≡◌, ◌∙◌, ℕ, ap, List, length, map}
use Rattle.std.specs.List.{slice_set}
use Rattle.std.proofs.lemmas.List.{length-set, length-map}
use Rattle.mind_base.specs.Place.{Granule}
use Rattle.mind_base.specs.Span.{SpanView}
use Rattle.mind_base.specs.declared.plans.RackPlan.{RackPlan}
use Rattle.mind_base.specs.Plan.{image_place}
use Rattle.hart_effect.specs.Thread.{Thread, first_thread}
use Rattle.tso_machine.specs.Commands.{thread_outside, threads_outside}
use Rattle.tso_machine.specs.Step.{thread_off, threads_off}

pub length_one : (threads : List Thread) (i : ℕ) (thread : Thread) → length (slice_set threads i thread) ≡ length threads
length_one threads i thread = length-set threads i thread

pub length_off : (granule : Granule) (threads new : List Thread) → new ≡ threads_off granule threads → length new ≡ length threads
length_off granule threads new e = ap length e ∙ length-map threads (thread_off granule)

pub length_outside : (span : SpanView) (threads new : List Thread) → new ≡ threads_outside span threads → length new ≡ length threads
length_outside span threads new e = ap length e ∙ length-map threads (thread_outside span)

pub length_first : (plan : RackPlan) (threads : List Thread) → threads ≡ map (λ thread. first_thread (image_place plan.images thread.image)) plan.threads
    → length threads ≡ length plan.threads
length_first plan threads e = ap length e ∙ length-map plan.threads (λ thread. first_thread (image_place plan.images thread.image))
