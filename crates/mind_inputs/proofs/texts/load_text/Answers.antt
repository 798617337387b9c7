use Rattle.mind_inputs.specs.Texts.{text_seen_judged}
use Rattle.mind_inputs.proofs.Chains.{reads-slice, brings-judged}
use Rattle.mind_inputs.proofs.texts.load_text.Goals as goal

pub returns-in-Ok-clause-brings : goal.returns-in-Ok-clause-brings
returns-in-Ok-clause-brings g c =
    brings-judged (g.S.Store.holds c.args.store.now) c.args.name.now 4194304 _ _ _ _ text_seen_judged c.as_slice.result.now c.image_from_text.result
    (reads-slice _ _ _ c.in-Ok.bytes _ c.as_slice.ensures.value c.in-Ok.ensures.told c.in-Ok.ensures.short)
    c.image_from_text.ensures c.in-Ok.ensures.steady
