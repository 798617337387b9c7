use Rattle.std.proofs.Common.{refl, arith}
use Rattle.std.proofs.lemmas.List.{length-take-le}
use Rattle.std.proofs.lemmas.Option.{slice_get_read}
use Rattle.tso_machine.proofs.Callers.{on_err}
use Rattle.rack_settle.proofs.Rans.{has-run-none, has-run-at, has-stopped-at}
use Rattle.rack_settle.proofs.running.run_all.Goals as goal

pub loop-i-init : goal.loop-i-init
loop-i-init c = has-run-none c.args.images.now c.args.rack.now c.args.log.now.notes c.requires.kept c.requires.stands

pub loop-i-preserved : goal.loop-i-preserved
loop-i-preserved c =
    let here = slice_get_read c.args.events.now _ c.loop-i.i c.index-events-i.result refl (omega arith) c.index-events-i.is in
    has-run-at c.args.images.now c.args.events.now c.loop-i.i _ _ _ _ _ _ _ here (length-take-le c.loop-i.i c.args.events.now (omega arith))
    c.loop-i.invariant c.in_ok-one_event.ensures.ok c.in_ok-one_event.ensures.plan

pub returns-in_err-one_event-clause-err : goal.returns-in_err-one_event-clause-err
returns-in_err-one_event-clause-err c =
    let here = slice_get_read c.args.events.now _ c.loop-i.i c.index-events-i.result refl (omega arith) c.index-events-i.is in
    on_err _ (has-stopped-at c.args.images.now c.args.events.now c.loop-i.i _ c.args.rack.now _ _ _ _ _ here (length-take-le c.loop-i.i c.args.events.now (omega arith)) c.loop-i.invariant
    c.in_err-one_event.ensures.err c.in_err-one_event.ensures.plan)
