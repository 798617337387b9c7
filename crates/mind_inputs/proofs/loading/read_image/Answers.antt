use Rattle.std.proofs.Common.{refl}
use Rattle.mind_inputs.specs.Inputs.{image_seen_judged}
use Rattle.mind_inputs.proofs.Chains.{reads-slice, reads-as, brings-judged}
use Rattle.mind_inputs.proofs.loading.read_image.Goals as goal

pub returns-in-Ok-clause-brings : goal.returns-in-Ok-clause-brings
returns-in-Ok-clause-brings g c =
    brings-judged (g.S.Store.holds c.args.store.now) c.args.plan.now.name 65536 _ _ _ _ (image_seen_judged c.args.number c.args.plan.now) c.in-Ok.bytes.items c.image_from.result
    (reads-as _ c.as_str.result.now c.args.plan.now.name _ _ c.as_str.ensures
    (reads-slice _ c.as_str.result.now _ c.in-Ok.bytes _ refl c.in-Ok.ensures.told c.in-Ok.ensures.short))
    c.image_from.ensures.judged c.in-Ok.ensures.steady
