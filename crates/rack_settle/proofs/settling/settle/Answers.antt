use Rattle.rack_settle.proofs.Schedules.{settles-waiting}
use Rattle.rack_settle.proofs.Settlings.{lowered, turned-none, turned-more, turned-places, settled, settled-quiet}
use Rattle.rack_settle.proofs.settling.settle.Goals as goal

pub loop-turn-init : goal.loop-turn-init
loop-turn-init c = turned-none c.args.images.now c.args.rack.now c.args.log.now.notes c.requires.kept

pub loop-turn-smaller : goal.loop-turn-smaller
loop-turn-smaller c = lowered c.args.images.now c.in-Some.turn c.loop-turn.rack c.event.new.self c.loop-turn.log.notes c.event.new.log.notes c.loop-turn.invariant.kept
    c.in_ok-event.ensures.kept c.in-Some.ensures c.in_ok-event.ensures.leads

pub loop-turn-preserved : goal.loop-turn-preserved
loop-turn-preserved c = turned-more c.args.images.now c.in-Some.turn c.args.rack.now c.loop-turn.rack c.event.new.self c.args.log.now.notes c.loop-turn.log.notes c.event.new.log.notes
    c.loop-turn.invariant c.in-Some.ensures c.in_ok-event.ensures.leads c.in_ok-event.ensures.stands c.in_ok-event.ensures.places c.in_ok-event.ensures.kept c.event.ensures.plan

pub returns-clause-quiet : goal.returns-clause-quiet
returns-clause-quiet c = settled-quiet c.loop-turn.rack c.loop-turn.invariant.kept c.in_default.ensures

pub returns-clause-places : goal.returns-clause-places
returns-clause-places c = turned-places c.args.images.now c.args.rack.now c.loop-turn.rack c.args.log.now.notes c.loop-turn.log.notes c.loop-turn.invariant

pub returns-clause-settles : goal.returns-clause-settles
returns-clause-settles c = settled c.args.images.now c.args.rack.now c.loop-turn.rack c.args.log.now.notes c.loop-turn.log.notes c.loop-turn.invariant c.in_default.ensures

pub returns-clause-labels : goal.returns-clause-labels
returns-clause-labels c = settles-waiting c.args.images.now c.args.rack.now c.loop-turn.rack c.args.log.now.notes c.loop-turn.log.notes c.requires.kept
    (settled c.args.images.now c.args.rack.now c.loop-turn.rack c.args.log.now.notes c.loop-turn.log.notes c.loop-turn.invariant c.in_default.ensures)
