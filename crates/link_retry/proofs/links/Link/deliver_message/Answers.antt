use Rattle.std.proofs.Common.{◌≡◌, ℕ, ◌+◌, ◌<◌, ◌++◌, length, map, subst, sym, ap, ◌∙◌}
use Rattle.link_retry.specs.SelectiveRepeat.{SelectiveView, ChangesNoElse}
use Rattle.link_retry.specs.Kept.{selective_view}
use Rattle.link_retry.proofs.Frames.{at_frame}
use Rattle.link_retry.proofs.Holding.{is_link}
use Rattle.link_retry.proofs.Keeping.{without_message, with_ack}
use Rattle.link_retry.proofs.Receiving.{message-delivered}
use Rattle.link_retry.proofs.links.Link.deliver_message.Goals as goal

pub invariant_of-self-2 : goal.invariant_of-self-2
invariant_of-self-2 c = without_message c.self.invariant c.args.k _ c.take_out.ensures.wire

pub accept-requires : goal.accept-requires
accept-requires c = at_frame (λ x. x < c.self.inside.receiver.base + length (map (λ v. v.items) c.self.inside.pending.items)) c.self.inside.messages.items c.args.k c.in-Some.number c.self.invariant.link.message_numbers (sym c.in-Some.ensures.frame)

pub invariant_of-self-3 : goal.invariant_of-self-3
invariant_of-self-3 c = with_ack c.self-2.invariant _ c.in_ok-put.ensures.ok

pub returns-clause-ok : goal.returns-clause-ok
returns-clause-ok c =
    message-delivered c.self.invariant c.args.self.now c.accept.new.self c.args.k c.in-Some.number (map (λ v. v.items) c.in_ok-taken.taken.items)
    c.self-2.inside.sender c.self-2.inside.receiver (map (λ v. v.items) c.self-2.inside.pending.items) c.self-2.inside.messages.items c.self-2.inside.acks.items c.put.new.wire.items
    c.self.view_is c.self-2.view_is c.self-2.invariant (sym c.in-Some.ensures.frame) c.in_ok-taken.ensures.taken c.in_ok-taken.ensures.handed
    (subst (λ w. ChangesNoElse (selective_view c.self.inside.sender c.self.inside.receiver (map (λ v. v.items) c.self.inside.pending.items) w c.self.inside.acks.items) c.accept.new.self) c.take_out.ensures.wire c.in_ok-taken.ensures.others) c.in_ok-put.ensures.ok

pub returns-clause-link : goal.returns-clause-link
returns-clause-link c = is_link (with_ack c.self-2.invariant _ c.in_ok-put.ensures.ok).link
