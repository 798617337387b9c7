use Rattle.std.proofs.Common.{◌≡◌, map, subst, sym, ap}
use Rattle.mind_base.specs.declared.links.Side.{Side}
use Rattle.link_retry.specs.Link.{after_lose}
use Rattle.link_retry.specs.SelectiveRepeat.{SelectiveView}
use Rattle.link_retry.specs.Kept.{link_view, bases}
use Rattle.link_retry.proofs.Holding.{is_link}
use Rattle.link_retry.proofs.Keeping.{without_message, without_ack, lost_view}
use Rattle.link_retry.proofs.links.Link.lose.Goals as goal

pub invariant_of-self : goal.invariant_of-self
invariant_of-self c = without_message c.self.invariant c.args.k _ c.take_out-frame.ensures.wire

pub invariant_of-self-in-Acks : goal.invariant_of-self-in-Acks
invariant_of-self-in-Acks c = without_ack c.self.invariant c.args.k _ c.take_out-frame-in-Acks.ensures.wire

pub returns-in-Messages-clause-link : goal.returns-in-Messages-clause-link
returns-in-Messages-clause-link c = is_link (without_message c.self.invariant c.args.k _ c.take_out-frame.ensures.wire).link

pub returns-in-Acks-clause-lost : goal.returns-in-Acks-clause-lost
returns-in-Acks-clause-lost c =
    subst (λ (side : Side). (link_view c.self.inside.sender.base c.self.inside.receiver.base (map (λ v. v.items) c.self.inside.pending.items) c.self.inside.messages.items (bases c.take_out-frame-in-Acks.new.wire.items)) ≡ after_lose c.args.self.now.link side c.args.k) (sym c.in-Acks.is)
    (lost_view _ _ _ _ c.self.inside.acks.items c.take_out-frame-in-Acks.new.wire.items c.args.k c.args.self.now.link (ap (λ (v : SelectiveView). v.link) c.self.view_is) c.take_out-frame-in-Acks.ensures.wire)

pub returns-in-Acks-clause-link : goal.returns-in-Acks-clause-link
returns-in-Acks-clause-link c = is_link (without_ack c.self.invariant c.args.k _ c.take_out-frame-in-Acks.ensures.wire).link
