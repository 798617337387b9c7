use Rattle.std.proofs.Common.{◌∙◌}
use Rattle.mind_inputs.proofs.Chains.{read-all, none-left, left-front, one-more, image-stops, stays-on}
use Rattle.mind_inputs.proofs.loading.read_images.Goals as goal

pub returns-in-Err-clause-brings : goal.returns-in-Err-clause-brings
returns-in-Err-clause-brings g c =
    image-stops (g.S.Store.holds c.args.store.now) (g.S.Store.holds c.loop-left.store) _ _ _ _ _ _ c.number_of.result c.args.plans.now c.loop-left.left.now _ c.plan-item.result c.loop-left.images
    c.in-Err.stopped c.loop-left.invariant (left-front c.loop-left.left.now c.plan-item.result c.in-len1-up.len_at_least c.plan-item.is) (c.number_of.ensures ∙ c.len.ensures) c.in-Err.ensures.brings

pub loop-left-preserved : goal.loop-left-preserved
loop-left-preserved g c =
    one-more (g.S.Store.holds c.args.store.now) (g.S.Store.holds c.loop-left.store) (g.S.Store.holds c.read_image.new.store) _ _ _ _ _ _ c.number_of.result c.args.plans.now c.loop-left.left.now _
    c.plan-item.result c.loop-left.images c.push.new.self c.in-Ok.image c.loop-left.invariant (left-front c.loop-left.left.now c.plan-item.result c.in-len1-up.len_at_least c.plan-item.is)
    (c.number_of.ensures ∙ c.len.ensures) c.in-Ok.ensures.keeps c.in-Ok.ensures.brings c.in-Ok.ensures.fits c.in-Ok-push.ensures.ok

pub returns-clause-brings : goal.returns-clause-brings
returns-clause-brings g c =
    (read-all _ _ _ _ _ _ c.args.plans.now c.loop-left.left.now c.loop-left.images c.loop-left.invariant (none-left c.loop-left.left.now c.in_default.len_below)).0

pub returns-clause-fit : goal.returns-clause-fit
returns-clause-fit g c =
    (read-all _ _ _ _ _ _ c.args.plans.now c.loop-left.left.now c.loop-left.images c.loop-left.invariant (none-left c.loop-left.left.now c.in_default.len_below)).1
