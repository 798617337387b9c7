use Rattle.std.proofs.Common.{◌≡◌, ap, sym, subst, Err, rules, inr}
use Rattle.mind_base.specs.Fit.{FitImages}
use Rattle.mind_base.specs.declared.failures.Stop.TheVariants.{Spent}
use Rattle.mind_base.specs.declared.plans.RackPlan.{RackPlan}
use Rattle.compute_blade.specs.Blade.{HasSpent}
use Rattle.rack_core.specs.HartActs.{hart_acted}
use Rattle.rack_core.specs.Rack.{RackView}
use Rattle.rack_core.proofs.Functions.Blades.{there, spent-place, blade-within, blade-own, blade-plan, did-agrees, did-sent, of-net, hart-at, hart-acted, shape-acted, acted-acts, act-leads}
use Rattle.rack_core.proofs.racks.Rack.act.Goals as goal

pub let_act-requires : goal.let_act-requires
let_act-requires c =
    let rack = c.args.self.now in
    let place = hart-at _ rack _ _ c.args.hart _ c.self.view_is c.from.ensures c.index_mut-blade.ensures.value c.requires.kept.shape c.blade_of-number.ensures in
    let here = there _ rack _ c.blade_of-number.result c.index_mut-blade.result.now place in
    record {
      own = blade-own rack c.args.hart c.blade_of-number.result c.index_mut-blade.result.now c.requires.kept.shape c.blade_of-number.ensures here;
      fit = subst (λ (p : RackPlan). FitImages p.images c.args.images.now) (sym (blade-plan rack c.blade_of-number.result c.index_mut-blade.result.now c.requires.kept.shape here)) c.requires.images;
    }

pub returns-in_err-let_act-clause-leaves : goal.returns-in_err-let_act-clause-leaves
returns-in_err-let_act-clause-leaves c =
    let place = hart-at _ c.args.self.now _ _ c.args.hart _ c.self.view_is c.from.ensures c.index_mut-blade.ensures.value c.requires.kept.shape c.blade_of-number.ensures in
    record {
      shape = search rules;
      spent = λ err.
          let is : c.let_act.result ≡ Err Spent = search rules in
          let spent = c.let_act.ensures.spent is in
          inr (inr (spent-place _ c.args.self.now _ c.blade_of-number.result c.index_mut-blade.result.now c.let_act.new.blade c.args.hart place (subst (HasSpent c.args.hart) (sym spent.1) spent.0)));
      err = search rules;
      plan = search rules;
    }

pub send_up-requires-clause-of_rack : goal.send_up-requires-clause-of_rack
send_up-requires-clause-of_rack c = of-net c.blade_of-number.result c.args.self.now c.self.inside.net.blades (ap (λ (r : RackView). r.net.blades) c.self.view_is) c.requires.kept.shape (blade-within c.args.self.now c.args.hart c.blade_of-number.result c.requires.kept.shape c.blade_of-number.ensures)

pub send_up-requires-clause-fields : goal.send_up-requires-clause-fields
send_up-requires-clause-fields c =
    let effect = hart_acted c.args.act c.args.images.now c.args.hart c.index_mut-blade.result.now in
    did-agrees effect c.index_mut-blade.result.now c.let_act.new.blade c.as_slice.result.now c.args.log.now.notes c.let_act.new.log.notes (acted-acts c.args.act c.args.images.now c.args.hart c.index_mut-blade.result.now)
    (did-sent effect c.let_act.new.blade _ c.let_act.new.sent.items c.as_slice.result.now c.args.log.now.notes c.let_act.new.log.notes c.new-sent.ensures.items c.as_slice.ensures.value c.in_ok-let_act.ensures.ok)

pub returns-clause-leads : goal.returns-clause-leads
returns-clause-leads c =
    let effect = hart_acted c.args.act c.args.images.now c.args.hart c.index_mut-blade.result.now in
    let place = hart-at _ c.args.self.now _ _ c.args.hart _ c.self.view_is c.from.ensures c.index_mut-blade.ensures.value c.requires.kept.shape c.blade_of-number.ensures in
    let did = did-sent effect c.let_act.new.blade _ c.let_act.new.sent.items c.as_slice.result.now c.args.log.now.notes c.let_act.new.log.notes c.new-sent.ensures.items c.as_slice.ensures.value c.in_ok-let_act.ensures.ok in
    act-leads c.args.act c.args.images.now c.args.hart c.args.self.now c.send_up.new.self c.args.log.now.notes c.let_act.new.log.notes c.send_up.result
    (hart-acted (hart_acted c.args.act c.args.images.now c.args.hart) c.args.hart _ c.args.self.now c.send_up.new.self _ c.blade_of-number.result c.index_mut-blade.result.now c.let_act.new.blade c.as_slice.result.now c.args.log.now.notes c.let_act.new.log.notes c.send_up.result
    place c.blade_of-number.ensures did c.send_up.ensures.ok)

pub returns-clause-leaves : goal.returns-clause-leaves
returns-clause-leaves c =
    let place = hart-at _ c.args.self.now _ _ c.args.hart _ c.self.view_is c.from.ensures c.index_mut-blade.ensures.value c.requires.kept.shape c.blade_of-number.ensures in
    let shape = shape-acted _ c.args.self.now c.send_up.new.self _ c.blade_of-number.result c.index_mut-blade.result.now c.let_act.new.blade c.as_slice.result.now c.send_up.result
    place c.let_act.ensures.keeps c.send_up.ensures.net c.requires.kept.shape c.send_up.ensures.ok in
    record { shape = shape; spent = search rules; err = search rules; plan = search rules }
