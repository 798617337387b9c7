use Rattle.mind_inputs.proofs.Chains.{reads-slice}
use Rattle.mind_inputs.proofs.Checkables.{brings-journal}
use Rattle.mind_inputs.proofs.journals.load_journal.Goals as goal

pub returns-in-Ok-clause-brings : goal.returns-in-Ok-clause-brings
returns-in-Ok-clause-brings g c =
    brings-journal (g.S.Store.holds c.args.store.now) c.args.name.now _ _ _ _ c.as_slice.result.now c.log_from.result
    (reads-slice _ _ _ c.in-Ok.bytes _ c.as_slice.ensures.value c.in-Ok.ensures.told c.in-Ok.ensures.short)
    c.log_from.ensures c.in-Ok.ensures.steady
