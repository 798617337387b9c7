use Rattle.rack_settle.proofs.Rans.{runs-of}
use Rattle.rack_settle.proofs.running.one_event.Goals as goal

pub returns-clause-ok : goal.returns-clause-ok
returns-clause-ok c =
    runs-of c.args.images.now c.args.index c.args.event.now c.args.rack.now c.take.new.rack c.args.log.now.notes c.add.new.self.notes c.append.new.log.notes
    c.new-noted.result.notes c.take.new.log.notes c.in_ok-add.ensures.ok c.new-noted.ensures c.in_ok-take.ensures.leads c.in_ok-take.ensures.places c.in_ok-take.ensures.stands
    c.in_ok-take.ensures.kept c.in_ok-append.ensures.ok
