use Rattle.mind_inputs.specs.Inputs.{rack_seen_judged}
use Rattle.mind_inputs.proofs.Chains.{reads-slice, brings-judged}
use Rattle.mind_inputs.proofs.loading.load_rack.Goals as goal

pub returns-in-Ok-clause-brings : goal.returns-in-Ok-clause-brings
returns-in-Ok-clause-brings g c =
    brings-judged (g.S.Store.holds c.args.store.now) c.args.name.now 65536 _ _ _ _ rack_seen_judged c.as_slice.result.now c.plan_from.result
    (reads-slice _ _ _ c.in-Ok.bytes _ c.as_slice.ensures.value c.in-Ok.ensures.told c.in-Ok.ensures.short)
    c.plan_from.ensures.judged c.in-Ok.ensures.steady
