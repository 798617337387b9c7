use Rattle.std.proofs.Common.{◌≡◌, ◌∙◌, ◌++◌, ◌∷◌, [], sym, subst, reverse, rules, arith, Some}
use Rattle.std.proofs.lemmas.Grind.{elements}
use Rattle.std.proofs.lemmas.List.Elements.{All-pop}
use Rattle.wire_msg.specs.WellFormed.{IsWellFormed}
use Rattle.rack_core.specs.Calls.{HasLink}
use Rattle.rack_core.specs.Handing.{IsHanding}
use Rattle.rack_core.proofs.Functions.Hands.{HandsOnward, last-first, one-handed, all-handed-over, handing-next}
use Rattle.rack_core.proofs.Events.MayHand.{may-hand, handing-allowed}
use Rattle.rack_core.proofs.racks.Rack.hand_all.Goals as goal

pub hand-requires-clause-may : goal.hand-requires-clause-may
hand-requires-clause-may c =
    let rest = c.pop.new.self.items in
    let items : c.loop-msg.left.items ≡ rest ++ c.in-Some.msg ∷ [] = search rules in
    let first : reverse c.loop-msg.left.items ≡ c.in-Some.msg ∷ reverse rest = last-first c.loop-msg.left.items rest c.in-Some.msg items in
    may-hand c.args.link c.in-Some.msg (reverse rest) c.loop-msg.self c.loop-msg.invariant.0 (subst (λ p. HasLink p c.args.link) (sym c.loop-msg.invariant.1) c.requires.link)
    (subst (λ ms. IsHanding c.args.link ms c.loop-msg.self) first c.loop-msg.invariant.2)

pub hand-requires-clause-allowed : goal.hand-requires-clause-allowed
hand-requires-clause-allowed c = handing-allowed c.args.link (reverse c.loop-msg.left.items) c.loop-msg.self c.loop-msg.invariant.2

pub loop-msg-preserved : goal.loop-msg-preserved
loop-msg-preserved c =
    let rest = c.pop.new.self.items in
    let items : c.loop-msg.left.items ≡ rest ++ c.in-Some.msg ∷ [] = search rules in
    let first : reverse c.loop-msg.left.items ≡ c.in-Some.msg ∷ reverse rest = last-first c.loop-msg.left.items rest c.in-Some.msg items in (
      c.in_ok-hand.ensures.leaves.shape,
      c.hand.ensures.leaves.plan ∙ c.loop-msg.invariant.1,
      handing-next c.args.images.now c.args.link c.in-Some.msg (reverse rest) c.loop-msg.self c.hand.new.self c.loop-msg.log.notes c.hand.new.log.notes c.loop-msg.invariant.0.fit
          (subst (λ p. HasLink p c.args.link) (sym c.loop-msg.invariant.1) c.requires.link)
          (subst (λ ms. IsHanding c.args.link ms c.loop-msg.self) first c.loop-msg.invariant.2) c.in_ok-hand.ensures.ok,
      (All-pop IsWellFormed c.loop-msg.left.items rest (Some c.in-Some.msg) items c.loop-msg.invariant.3).0,
      one-handed c.args.images.now c.args.link c.in-Some.msg (reverse rest) (reverse c.args.left.items) c.args.self.now c.loop-msg.self c.hand.new.self
          c.args.log.now.notes c.loop-msg.log.notes c.hand.new.log.notes
          (subst (λ ms. HandsOnward c.args.images.now c.args.link ms (reverse c.args.left.items) c.args.self.now c.args.log.now.notes c.loop-msg.self c.loop-msg.log.notes) first c.loop-msg.invariant.4)
          c.in_ok-hand.ensures.ok,
    )

pub returns-clause-ok : goal.returns-clause-ok
returns-clause-ok c =
    let none : c.loop-msg.left.items ≡ [] = first_of (search rules, grind (arith, elements)) in
    all-handed-over c.args.images.now c.args.link (reverse c.args.left.items) c.args.self.now c.loop-msg.self c.args.log.now.notes c.loop-msg.log.notes
    (subst (λ ms. HandsOnward c.args.images.now c.args.link (reverse ms) (reverse c.args.left.items) c.args.self.now c.args.log.now.notes c.loop-msg.self c.loop-msg.log.notes) none c.loop-msg.invariant.4)
