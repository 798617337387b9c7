use Rattle.std.proofs.Common.{◌≡◌, map, subst, sym, ap}
use Rattle.std.specs.Prelude.{OnOk}
use Rattle.mind_base.specs.declared.links.Side.{Side}
use Rattle.link_retry.specs.Link.{after_repeat}
use Rattle.link_retry.specs.SelectiveRepeat.{SelectiveView}
use Rattle.link_retry.specs.Kept.{link_view, bases}
use Rattle.link_retry.proofs.Holding.{is_link}
use Rattle.link_retry.proofs.Keeping.{acks_repeated, messages_repeated, repeated_view}
use Rattle.link_retry.proofs.links.Link.repeat.Goals as goal

pub invariant_of-self-in-Acks : goal.invariant_of-self-in-Acks
invariant_of-self-in-Acks c = acks_repeated c.self.invariant c.put_copy-in-Acks.result c.args.k _ c.put_copy-in-Acks.ensures.ok c.put_copy-in-Acks.ensures.err

pub returns-in-Messages-clause-link : goal.returns-in-Messages-clause-link
returns-in-Messages-clause-link c = is_link (messages_repeated c.self.invariant c.put_copy.result c.args.k _ c.put_copy.ensures.ok c.put_copy.ensures.err).link

pub returns-in-Acks-clause-ok : goal.returns-in-Acks-clause-ok
returns-in-Acks-clause-ok c =
    subst (λ (side : Side). OnOk c.put_copy-in-Acks.result ((link_view c.self.inside.sender.base c.self.inside.receiver.base (map (λ v. v.items) c.self.inside.pending.items) c.self.inside.messages.items (bases c.put_copy-in-Acks.new.wire.items)) ≡ after_repeat c.args.self.now.link side c.args.k)) (sym c.in-Acks.is)
    (repeated_view c.put_copy-in-Acks.result _ _ _ _ c.self.inside.acks.items c.put_copy-in-Acks.new.wire.items c.args.k c.args.self.now.link (ap (λ (v : SelectiveView). v.link) c.self.view_is) c.put_copy-in-Acks.ensures.ok)

pub returns-in-Acks-clause-link : goal.returns-in-Acks-clause-link
returns-in-Acks-clause-link c = is_link (acks_repeated c.self.invariant c.put_copy-in-Acks.result c.args.k _ c.put_copy-in-Acks.ensures.ok c.put_copy-in-Acks.ensures.err).link
