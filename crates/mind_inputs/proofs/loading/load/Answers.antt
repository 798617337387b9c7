use Rattle.std.proofs.lemmas.Result.{err_from_is_err_and}
use Rattle.mind_inputs.specs.Words.{Paths}
use Rattle.mind_inputs.proofs.Chains.{parts-stop, schedule-stops, all-loaded}
use Rattle.mind_inputs.proofs.loading.load.Goals as goal

pub returns-in_err-parts-clause-loads : goal.returns-in_err-parts-clause-loads
returns-in_err-parts-clause-loads g c =
    let p : Paths = record { rack = c.args.rack.now; schedule = c.args.schedule.now } in
    let from = err_from_is_err_and c.from_residual.result c.from_residual.ensures.1 in
    rw (from.1, from.2) (parts-stop (g.S.Store.holds c.args.store.now) p _ _ _ _ c.in_err-parts.field-0.0 c.in_err-parts.ensures.brings)

pub returns-in_err-events-clause-loads : goal.returns-in_err-events-clause-loads
returns-in_err-events-clause-loads g c =
    let p : Paths = record { rack = c.args.rack.now; schedule = c.args.schedule.now } in
    let from = err_from_is_err_and c.from_residual-in_err-events.result c.from_residual-in_err-events.ensures.1 in
    rw (from.1, from.2) (schedule-stops (g.S.Store.holds c.args.store.now) (g.S.Store.holds c.load_parts.new.store) p c.in_ok-parts.parts _ _ _ _ _ _ c.in_err-events.field-0.0
    c.in_ok-parts.ensures.keeps c.in_ok-parts.ensures.brings c.in_err-events.ensures.brings)

pub returns-clause-loads : goal.returns-clause-loads
returns-clause-loads g c =
    let p : Paths = record { rack = c.args.rack.now; schedule = c.args.schedule.now } in
    all-loaded (g.S.Store.holds c.args.store.now) (g.S.Store.holds c.load_parts.new.store) p c.in_ok-parts.parts c.in_ok-events.events _ _ _ _ _ _ c.loaded_of.result
    c.in_ok-parts.ensures.keeps c.in_ok-parts.ensures.brings c.in_ok-events.ensures.brings c.loaded_of.ensures
