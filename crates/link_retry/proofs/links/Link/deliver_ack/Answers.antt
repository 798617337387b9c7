use Rattle.std.proofs.Common.{sym}
use Rattle.link_retry.proofs.Holding.{is_link}
use Rattle.link_retry.proofs.Keeping.{joined}
use Rattle.link_retry.proofs.Receiving.{ack-delivered}
use Rattle.link_retry.proofs.links.Link.deliver_ack.Goals as goal

pub invariant_of-self-2 : goal.invariant_of-self-2
invariant_of-self-2 c = joined c.self.invariant c.args.k c.in-Some.ack c.join.new.self _ (sym c.in-Some.ensures.frame) c.join.ensures c.take_out.ensures.wire

pub returns-clause-ok : goal.returns-clause-ok
returns-clause-ok c = ack-delivered c.self.invariant c.args.self.now c.args.k c.in-Some.ack c.join.new.self _ c.self.view_is (sym c.in-Some.ensures.frame) c.join.ensures c.take_out.ensures.wire

pub returns-clause-link : goal.returns-clause-link
returns-clause-link c = is_link (joined c.self.invariant c.args.k c.in-Some.ack c.join.new.self _ (sym c.in-Some.ensures.frame) c.join.ensures c.take_out.ensures.wire).link
