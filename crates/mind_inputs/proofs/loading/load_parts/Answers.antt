use Rattle.mind_inputs.proofs.Chains.{rack-stops, images-stop, parts-read}
use Rattle.mind_inputs.proofs.loading.load_parts.Goals as goal

pub returns-in-Err-clause-brings : goal.returns-in-Err-clause-brings
returns-in-Err-clause-brings g c = rack-stops (g.S.Store.holds c.args.store.now) c.args.rack.now _ _ _ _ c.in-Err.stopped c.in-Err.ensures.brings

pub returns-in-Err-read_images-clause-brings : goal.returns-in-Err-read_images-clause-brings
returns-in-Err-read_images-clause-brings g c =
    images-stop (g.S.Store.holds c.args.store.now) (g.S.Store.holds c.load_rack.new.store) c.args.rack.now c.in-Ok.plan c.as_slice.result.now _ _ _ _ _ _ c.in-Err-read_images.stopped
    c.as_slice.ensures c.in-Ok.ensures.keeps c.in-Ok.ensures.brings c.in-Err-read_images.ensures.brings

pub returns-clause-brings : goal.returns-clause-brings
returns-clause-brings g c =
    parts-read (g.S.Store.holds c.args.store.now) (g.S.Store.holds c.load_rack.new.store) c.args.rack.now c.in-Ok.plan c.as_slice.result.now _ _ _ _ _ _ c.in-Ok-read_images.images
    c.as_slice.ensures c.in-Ok.ensures.keeps c.in-Ok.ensures.brings c.in-Ok-read_images.ensures.brings
