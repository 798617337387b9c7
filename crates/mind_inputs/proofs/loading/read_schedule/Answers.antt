use Rattle.mind_inputs.specs.Inputs.{schedule_judged}
use Rattle.mind_inputs.proofs.Chains.{reads-slice, brings-judged}
use Rattle.mind_inputs.proofs.loading.read_schedule.Goals as goal

pub returns-in-Ok-clause-brings : goal.returns-in-Ok-clause-brings
returns-in-Ok-clause-brings g c =
    brings-judged (g.S.Store.holds c.args.store.now) c.args.name.now 4194304 _ _ _ _ (schedule_judged c.args.plan.now) c.as_slice.result.now c.events_from.result
    (reads-slice _ _ _ c.in-Ok.bytes _ c.as_slice.ensures.value c.in-Ok.ensures.told c.in-Ok.ensures.short)
    c.events_from.ensures.judged c.in-Ok.ensures.steady
