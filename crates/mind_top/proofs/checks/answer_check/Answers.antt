use Rattle.std.proofs.Common.{refl}
use Rattle.mind_inputs.specs.Words.{Paths}
use Rattle.mind_inputs.specs.Journals.{Checkable}
use Rattle.mind_top.specs.Words.{Check}
use Rattle.mind_top.proofs.Outside.{stays-any, stopped-stays}
use Rattle.mind_top.proofs.Ends.{nothing, stopped-call, check-ended}
use Rattle.mind_top.proofs.checks.answer_check.Goals as goal

pub returns-in-Ok-clause-answers : goal.returns-in-Ok-clause-answers
returns-in-Ok-clause-answers g c words is =
    let p : Paths = record { rack = c.args.rack.now; schedule = c.args.schedule.now } in
    let inputs : Checkable = record { accepted = c.in-Ok.loaded; notes = c.in-Ok.log.notes } in
    check-ended (g.S.Store.holds c.args.store.now) words p c.args.journal.now inputs _ _ _ _ c.finish_check.result is c.in-Ok.ensures.brings.0 c.finish_check.ensures.ends

pub returns-in-Err-clause-answers : goal.returns-in-Err-clause-answers
returns-in-Err-clause-answers g c words is =
    let p : Paths = record { rack = c.args.rack.now; schedule = c.args.schedule.now } in
    stopped-call (g.S.Store.holds c.args.store.now) words (Check p c.args.journal.now) nothing _ _ _ _ c.in-Err.stopped c.stop.result (refl, refl) is c.in-Err.ensures.brings c.stop.ensures.stops

pub returns-in-Ok-clause-steady : goal.returns-in-Ok-clause-steady
returns-in-Ok-clause-steady g c = stays-any _ _ _ _ c.in-Ok.ensures.brings.1 c.finish_check.result

pub returns-in-Err-clause-steady : goal.returns-in-Err-clause-steady
returns-in-Err-clause-steady g c = stopped-stays (g.S.Store.holds c.args.store.now) (Check (record { rack = c.args.rack.now; schedule = c.args.schedule.now }) c.args.journal.now) _ _ _ _ _ _ _ _ c.in-Err.stopped c.stop.result c.in-Err.ensures.brings c.stop.ensures.stops
