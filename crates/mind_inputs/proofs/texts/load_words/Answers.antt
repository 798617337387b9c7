use Rattle.std.proofs.Common.{refl}
use Rattle.mind_inputs.specs.Texts.{words_seen_judged}
use Rattle.mind_inputs.proofs.Chains.{reads-slice, brings-judged}
use Rattle.mind_inputs.proofs.texts.load_words.Goals as goal

pub returns-in-Ok-clause-brings : goal.returns-in-Ok-clause-brings
returns-in-Ok-clause-brings g c =
    brings-judged (g.S.Store.holds c.args.store.now) c.args.name.now 65536 _ _ _ _ words_seen_judged c.in-Ok.bytes.items c.words_from.result
    (reads-slice _ _ _ c.in-Ok.bytes _ refl c.in-Ok.ensures.told c.in-Ok.ensures.short)
    c.words_from.ensures.judged c.in-Ok.ensures.steady
