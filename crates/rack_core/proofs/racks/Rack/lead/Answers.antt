use Rattle.std.proofs.Common.{sym, subst, []}
use Rattle.mind_base.specs.declared.events.Event.{Event}
use Rattle.std.specs.Prelude.{OnOk}
use Rattle.rack_core.specs.Calls.{Notes}
use Rattle.rack_core.specs.Events.{Leads}
use Rattle.rack_core.proofs.Functions.Events.{silent}
use Rattle.rack_core.proofs.racks.Rack.lead.Goals as goal

pub returns-in-Evict-clause-leads : goal.returns-in-Evict-clause-leads
returns-in-Evict-clause-leads c = (subst (λ (e : Event). OnOk c.evict.result (Notes (Leads c.args.images.now e c.args.self.now c.evict.new.self) c.args.log.now.notes c.evict.new.log.notes)) (sym c.in-Evict.is) (c.evict.ensures.leads c.args.images.now))

pub returns-in-Lose-clause-leads : goal.returns-in-Lose-clause-leads
returns-in-Lose-clause-leads c = silent (Leads c.args.images.now c.args.event.now c.args.self.now c.lose.new.self) c.args.log.now.notes
    (subst (λ (e : Event). Leads c.args.images.now e c.args.self.now c.lose.new.self []) (sym c.in-Lose.is) (c.lose.ensures.leads c.args.images.now))

pub returns-in_ok-repeat-in-Repeat-clause-leads : goal.returns-in_ok-repeat-in-Repeat-clause-leads
returns-in_ok-repeat-in-Repeat-clause-leads c = silent (Leads c.args.images.now c.args.event.now c.args.self.now c.repeat.new.self) c.args.log.now.notes
    (subst (λ (e : Event). Leads c.args.images.now e c.args.self.now c.repeat.new.self []) (sym c.in-Repeat.is) (c.in_ok-repeat-in-Repeat.ensures.leads c.args.images.now))

pub returns-in_ok-resend-in-Resend-clause-leads : goal.returns-in_ok-resend-in-Resend-clause-leads
returns-in_ok-resend-in-Resend-clause-leads c = silent (Leads c.args.images.now c.args.event.now c.args.self.now c.resend.new.self) c.args.log.now.notes
    (subst (λ (e : Event). Leads c.args.images.now e c.args.self.now c.resend.new.self []) (sym c.in-Resend.is) (c.in_ok-resend-in-Resend.ensures.leads c.args.images.now))
