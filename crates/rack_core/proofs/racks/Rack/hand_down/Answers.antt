use Rattle.std.proofs.Common.{◌≡◌, ap, sym, subst, Some, Err, rules, inr}
use Rattle.mind_base.specs.Fit.{FitImages}
use Rattle.mind_base.specs.declared.failures.Stop.TheVariants.{Spent}
use Rattle.mind_base.specs.declared.plans.RackPlan.{RackPlan}
use Rattle.compute_blade.specs.Messages.{after_message}
use Rattle.compute_blade.proofs.Callers.{message_acts}
use Rattle.rack_core.specs.Rack.{RackView}
use Rattle.rack_core.proofs.Functions.Blades.{there, blade-plan, some-spent, spent-place, did-agrees, did-sent, of-net, number-within, number-at, blade-acted, shape-acted}
use Rattle.rack_core.proofs.racks.Rack.hand_down.Goals as goal

pub receive-requires-clause-images : goal.receive-requires-clause-images
receive-requires-clause-images c =
    subst (λ (p : RackPlan). FitImages p.images c.args.images.now) (sym (blade-plan c.args.self.now c.args.number c.index_mut.result.now c.requires.ready.shape
    (there _ c.args.self.now _ c.args.number c.index_mut.result.now (number-at _ c.args.self.now _ _ _ c.self.view_is c.from.ensures c.index_mut.ensures.value c.requires.ready.shape c.requires.number)))) c.requires.ready.fit

pub send_up-requires-clause-of_rack : goal.send_up-requires-clause-of_rack
send_up-requires-clause-of_rack c =
    of-net c.args.number c.args.self.now c.self.inside.net.blades (ap (λ (r : RackView). r.net.blades) c.self.view_is) c.requires.ready.shape (number-within c.args.number c.args.self.now c.requires.ready.shape c.requires.number)

pub send_up-requires-clause-fields : goal.send_up-requires-clause-fields
send_up-requires-clause-fields c =
    did-agrees (Some (after_message c.args.images.now c.args.msg c.index_mut.result.now)) c.index_mut.result.now c.receive.new.self c.as_slice.result.now c.args.log.now.notes c.receive.new.log.notes
    (let here = there _ c.args.self.now _ c.args.number c.index_mut.result.now (number-at _ c.args.self.now _ _ _ c.self.view_is c.from.ensures c.index_mut.ensures.value c.requires.ready.shape c.requires.number) in
    message_acts c.args.images.now c.args.msg c.index_mut.result.now (c.requires.ready.sound c.args.number c.index_mut.result.now here).cache (c.requires.may c.index_mut.result.now here))
    (did-sent (Some (after_message c.args.images.now c.args.msg c.index_mut.result.now)) c.receive.new.self _ c.receive.new.out.items c.as_slice.result.now c.args.log.now.notes c.receive.new.log.notes c.new-sent.ensures.items c.as_slice.ensures.value c.in_ok-receive.ensures.ok)

pub returns-clause-ok : goal.returns-clause-ok
returns-clause-ok c =
    blade-acted (λ b. Some (after_message c.args.images.now c.args.msg b)) _ c.args.self.now c.send_up.new.self _ c.args.number c.index_mut.result.now c.receive.new.self c.as_slice.result.now c.args.log.now.notes c.receive.new.log.notes c.send_up.result
    (number-at _ c.args.self.now _ _ _ c.self.view_is c.from.ensures c.index_mut.ensures.value c.requires.ready.shape c.requires.number)
    (did-sent (Some (after_message c.args.images.now c.args.msg c.index_mut.result.now)) c.receive.new.self _ c.receive.new.out.items c.as_slice.result.now c.args.log.now.notes c.receive.new.log.notes c.new-sent.ensures.items c.as_slice.ensures.value c.in_ok-receive.ensures.ok) c.send_up.ensures.ok

pub returns-clause-leaves : goal.returns-clause-leaves
returns-clause-leaves c =
    let shape = shape-acted _ c.args.self.now c.send_up.new.self _ c.args.number c.index_mut.result.now c.receive.new.self c.as_slice.result.now c.send_up.result
    (number-at _ c.args.self.now _ _ _ c.self.view_is c.from.ensures c.index_mut.ensures.value c.requires.ready.shape c.requires.number) c.receive.ensures.keeps c.send_up.ensures.net c.requires.ready.shape c.send_up.ensures.ok in
    record { shape = shape; spent = search rules; err = search rules; plan = search rules }

pub returns-in_err-receive-clause-leaves : goal.returns-in_err-receive-clause-leaves
returns-in_err-receive-clause-leaves c = record {
  shape = search rules;
  spent = λ err.
      let is : c.receive.result ≡ Err Spent = search rules in
      let spent = some-spent c.index_mut.result.now c.receive.new.self _ (c.receive.ensures.spent is) in
      inr (inr (spent-place _ c.args.self.now _ c.args.number c.index_mut.result.now c.receive.new.self spent.0
      (number-at _ c.args.self.now _ _ _ c.self.view_is c.from.ensures c.index_mut.ensures.value c.requires.ready.shape c.requires.number) spent.1));
  err = search rules;
  plan = search rules;
}
