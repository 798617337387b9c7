use Rattle.std.proofs.Common.{◌∙◌, ap, refl, subst, inl, inr, Some, Err}
use Rattle.mind_inputs.specs.Inputs.{Accepted}
use Rattle.rack_core.specs.Start.{IsStart}
use Rattle.rack_settle.specs.Ran.{HasRun, HasStopped}
use Rattle.mind_top.proofs.Headlines.{all-events, of-empty, ran-through, stops-in}
use Rattle.mind_top.proofs.Rans.{events-fit, fit-by}
use Rattle.mind_top.proofs.runs.run.Goals as goal

pub returns-in-Err-clause-ends : goal.returns-in-Err-clause-ends
returns-in-Err-clause-ends g c = inl (refl, refl, refl, inl c.requires.empty)

pub run_all-requires-clause-fit : goal.run_all-requires-clause-fit
run_all-requires-clause-fit g c = fit-by c.args.loaded.now.plan c.in-Ok.rack.plan c.args.loaded.now.events c.as_slice.result.now
    (c.in-Ok.ensures.start.of_plan ∙ ap (λ (a : Accepted). a.plan) c.loaded.view_is)
    (c.as_slice.ensures ∙ ap (λ (a : Accepted). a.events) c.loaded.view_is) (events-fit c.args.loaded.now c.requires.runnable)

pub finish-requires-clause-ran : goal.finish-requires-clause-ran
finish-requires-clause-ran g c = ran-through c.args.loaded.now c.as_slice-images.result.now c.as_slice.result.now c.in-Ok.rack c.run_all.new.rack c.run_all.new.log.notes
    (c.as_slice-images.ensures ∙ ap (λ (a : Accepted). a.images) c.loaded.view_is) (c.as_slice.ensures ∙ ap (λ (a : Accepted). a.events) c.loaded.view_is)
    c.requires.runnable.fit (events-fit c.args.loaded.now c.requires.runnable)
    (subst (λ p. IsStart p c.in-Ok.rack) (ap (λ (a : Accepted). a.plan) c.loaded.view_is) c.in-Ok.ensures.start) (of-empty (HasRun c.as_slice-images.result.now c.as_slice.result.now c.in-Ok.rack c.run_all.new.rack) c.args.log.now.notes c.run_all.new.log.notes c.requires.empty c.in-Ok-run_all.ensures.ok)

pub finish-requires-clause-events : goal.finish-requires-clause-events
finish-requires-clause-events g c = all-events c.args.loaded.now c.as_slice-images.result.now c.as_slice.result.now c.in-Ok.rack c.run_all.new.rack c.run_all.new.log.notes
    (c.as_slice.ensures ∙ ap (λ (a : Accepted). a.events) c.loaded.view_is) (of-empty (HasRun c.as_slice-images.result.now c.as_slice.result.now c.in-Ok.rack c.run_all.new.rack) c.args.log.now.notes c.run_all.new.log.notes c.requires.empty c.in-Ok-run_all.ensures.ok)

pub returns-in-Err-NoMemory-clause-ends : goal.returns-in-Err-NoMemory-clause-ends
returns-in-Err-NoMemory-clause-ends g c = inl (
  refl,
  refl,
  refl,
  inr (
    c.run_all.new.rack,
    inr (
        stops-in c.args.loaded.now c.as_slice-images.result.now c.as_slice.result.now c.in-Ok.rack c.run_all.new.rack c.run_all.new.log.notes
        (c.as_slice-images.ensures ∙ ap (λ (a : Accepted). a.images) c.loaded.view_is) (c.as_slice.ensures ∙ ap (λ (a : Accepted). a.events) c.loaded.view_is)
        (subst (λ p. IsStart p c.in-Ok.rack) (ap (λ (a : Accepted). a.plan) c.loaded.view_is) c.in-Ok.ensures.start) (of-empty (HasStopped c.as_slice-images.result.now c.as_slice.result.now c.in-Ok.rack c.run_all.new.rack) c.args.log.now.notes c.run_all.new.log.notes c.requires.empty c.in-Err-NoMemory.ensures.err)),
  ),
)

pub returns-in-Err-Spent-clause-ends : goal.returns-in-Err-Spent-clause-ends
returns-in-Err-Spent-clause-ends g c = inr (inl (
  refl,
  refl,
  record {
    rack = c.run_all.new.rack;
    end = refl;
    stops = stops-in c.args.loaded.now c.as_slice-images.result.now c.as_slice.result.now c.in-Ok.rack c.run_all.new.rack c.run_all.new.log.notes
        (c.as_slice-images.ensures ∙ ap (λ (a : Accepted). a.images) c.loaded.view_is) (c.as_slice.ensures ∙ ap (λ (a : Accepted). a.events) c.loaded.view_is)
        (subst (λ p. IsStart p c.in-Ok.rack) (ap (λ (a : Accepted). a.plan) c.loaded.view_is) c.in-Ok.ensures.start) (of-empty (HasStopped c.as_slice-images.result.now c.as_slice.result.now c.in-Ok.rack c.run_all.new.rack) c.args.log.now.notes c.run_all.new.log.notes c.requires.empty c.in-Err-Spent.ensures.err);
    spent = c.in-Err-Spent.ensures.spent (ap (λ s. Err s) c.in-Err-Spent.field-0-is);
  },
))
