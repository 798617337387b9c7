use Rattle.std.proofs.lemmas.Result.{err_from_is_err_and}
use Rattle.mind_inputs.proofs.Chains.{made-stops, all-made}
use Rattle.mind_inputs.proofs.loading.load_made.Goals as goal

pub returns-in_err-parts-clause-loads : goal.returns-in_err-parts-clause-loads
returns-in_err-parts-clause-loads g c =
    let from = err_from_is_err_and c.from_residual.result c.from_residual.ensures.1 in
    rw (from.1, from.2) (made-stops (g.S.Store.holds c.args.store.now) c.args.rack.now c.args.count c.args.seed _ _ _ _ c.in_err-parts.field-0.0 c.in_err-parts.ensures.brings)

pub returns-clause-loads : goal.returns-clause-loads
returns-clause-loads g c =
    all-made (g.S.Store.holds c.args.store.now) c.args.rack.now c.args.count c.args.seed c.in_ok-parts.parts c.in_ok-events.events _ _ _ _ c.loaded_of.result
    c.in_ok-parts.ensures.brings c.in_ok-events.ensures.made c.loaded_of.ensures
