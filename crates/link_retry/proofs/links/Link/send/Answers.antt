use Rattle.std.proofs.Common.{◌≡◌, ℕ, ◌+◌, ◌<◌, [], ◌∷◌, map, length, sym, ap, ◌∙◌, arith}
use Rattle.std.specs.Global.{Vec}
use Rattle.std.proofs.lemmas.List.{map-append}
use Rattle.link_retry.specs.Wire.{with_frame}
use Rattle.link_retry.specs.SelectiveRepeat.{SelectiveView}
use Rattle.link_retry.specs.Kept.{IsKeptSelective}
use Rattle.link_retry.proofs.Holding.{is_link}
use Rattle.link_retry.proofs.Keeping.{sent}
use Rattle.link_retry.proofs.links.Link.send.Goals as goal

pub invariant_of-self-2 : goal.invariant_of-self-2
invariant_of-self-2 c =
    let next = ap (λ (v : SelectiveView). v.link.next) c.self.view_is in
    sent c.self.invariant c.args.message.items _ _ (grind (arith, next, c.self.invariant.link.next, c.if-is_spent.ensures, c.if-is_spent.false))
    (ap (map (λ v. v.items)) c.in_ok-push_back.ensures.items ∙ map-append (λ (v : Vec ℕ). v.items) c.self.inside.pending.items (c.args.message ∷ []))
    (c.in_ok-put.ensures.ok ∙ ap (with_frame c.self.inside.messages.items) (c.next-number.ensures ∙ sym next))

pub returns-clause-link : goal.returns-clause-link
returns-clause-link c =
    let next = ap (λ (v : SelectiveView). v.link.next) c.self.view_is in
    is_link (sent c.self.invariant c.args.message.items _ _ (grind (arith, next, c.self.invariant.link.next, c.if-is_spent.ensures, c.if-is_spent.false))
    (ap (map (λ v. v.items)) c.in_ok-push_back.ensures.items ∙ map-append (λ (v : Vec ℕ). v.items) c.self.inside.pending.items (c.args.message ∷ []))
    (c.in_ok-put.ensures.ok ∙ ap (with_frame c.self.inside.messages.items) (c.next-number.ensures ∙ sym next))).link
