use Rattle.rack_core.proofs.Functions.Blades.{when-ok, both-ok}
use Rattle.rack_core.proofs.Functions.Events.{kept-after, of-rack}
use Rattle.rack_core.proofs.Log.Places.Events.{places_of, shaped-own}
use Rattle.rack_core.proofs.Machine.Logs.{event-logs}
use Rattle.rack_core.proofs.Machine.Shaped.{shaped-counted}
use Rattle.rack_core.proofs.racks.Rack.event.Goals as goal

pub returns-clause-kept : goal.returns-clause-kept
returns-clause-kept c = both-ok c.lead.result
    (λ shape leads. kept-after c.args.images.now c.args.event.now c.args.self.now c.lead.new.self c.args.log.now.notes c.lead.new.log.notes c.requires.kept c.requires.fits shape leads)
    c.lead.ensures.leaves.shape c.lead.ensures.leads

pub returns-clause-stands : goal.returns-clause-stands
returns-clause-stands c = both-ok c.lead.result
    (λ shape leads. (
      leads.0,
      λ log stands. event-logs c.args.images.now c.args.event.now c.args.self.now c.lead.new.self log leads.0
          (of-rack c.args.self.now.plan c.args.event.now c.requires.kept.shape.fit c.requires.fits) stands leads.1 (shaped-counted c.lead.new.self shape),
      leads.2,
    ))
    c.lead.ensures.leaves.shape c.lead.ensures.leads

pub returns-clause-places : goal.returns-clause-places
returns-clause-places c = when-ok c.lead.result
    (λ leads. (
      leads.0,
      places_of c.args.images.now c.args.event.now c.args.self.now c.lead.new.self leads.0
          (of-rack c.args.self.now.plan c.args.event.now c.requires.kept.shape.fit c.requires.fits) c.requires.kept.safe (shaped-own c.args.self.now c.requires.kept.shape) leads.1,
      leads.2,
    ))
    c.lead.ensures.leads
