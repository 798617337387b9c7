use Rattle.std.proofs.Common.{◌≡◌, ℕ, ◌-◌, subst, sym, ap, ◌∙◌, arith}
use Rattle.link_retry.specs.Link.{AreResent}
use Rattle.link_retry.specs.Window.{PutsGaps}
use Rattle.link_retry.specs.SelectiveRepeat.{SelectiveView, unmarked}
use Rattle.link_retry.proofs.Holding.{is_link}
use Rattle.link_retry.proofs.Keeping.{gaps_put}
use Rattle.link_retry.proofs.Receiving.{unmarked_are_resent}
use Rattle.link_retry.proofs.links.Link.resend_unmarked.Goals as goal

pub invariant_of-self : goal.invariant_of-self
invariant_of-self c =
    gaps_put c.self.invariant _
    (subst (λ (n : ℕ). PutsGaps c.self.inside.messages.items c.self.inside.sender (n - c.self.inside.sender.base) c.put_unmarked.new.wire.items)
    (c.next-next.ensures ∙ sym (ap (λ (v : SelectiveView). v.link.next) c.self.view_is)) c.put_unmarked.ensures.some)

pub returns-clause-link : goal.returns-clause-link
returns-clause-link c =
    is_link (gaps_put c.self.invariant _
    (subst (λ (n : ℕ). PutsGaps c.self.inside.messages.items c.self.inside.sender (n - c.self.inside.sender.base) c.put_unmarked.new.wire.items)
    (c.next-next.ensures ∙ sym (ap (λ (v : SelectiveView). v.link.next) c.self.view_is)) c.put_unmarked.ensures.some)).link

pub returns-clause-frames : goal.returns-clause-frames
returns-clause-frames c =
    subst (λ (v : SelectiveView). AreResent v.link (unmarked v.link v.windows.sender)) c.self.view_is
    (unmarked_are_resent _ c.self.inside.sender (is_link c.self.invariant.link) (omega (arith, c.self.invariant.link.from)))
