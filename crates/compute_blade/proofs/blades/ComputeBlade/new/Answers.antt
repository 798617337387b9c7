use Rattle.std.proofs.Common.{◌≡◌, rules, sym, subst, arith}
use Rattle.std.proofs.lemmas.Grind.{common_steps}
use Rattle.compute_blade.specs.Blade.{BladeView, IsBlade}
use Rattle.compute_blade.specs.Start.{first_blade}
use Rattle.compute_blade.proofs.Placing.{starts_blade}
use Rattle.compute_blade.proofs.blades.ComputeBlade.new.Goals as goal

pub invariant_of-result : goal.invariant_of-result
invariant_of-result c =
    let made : BladeView = record { plan = c.in_ok-plan.plan; number = c.args.number; harts = c.in_ok-harts.harts.items; cache = c.in_ok-cache.cache; requests = c.new-2.result.items } in
    let first : made ≡ first_blade c.args.plan.now c.args.number = first_of (search rules, grind (arith, common_steps)) in
    subst IsBlade (sym first) (starts_blade c.args.plan.now c.args.number c.requires.fit c.requires.number)

pub returns-clause-shape : goal.returns-clause-shape
returns-clause-shape c =
    let made : BladeView = record { plan = c.in_ok-plan.plan; number = c.args.number; harts = c.in_ok-harts.harts.items; cache = c.in_ok-cache.cache; requests = c.new-2.result.items } in
    let first : made ≡ first_blade c.args.plan.now c.args.number = first_of (search rules, grind (arith, common_steps)) in
    subst IsBlade (sym first) (starts_blade c.args.plan.now c.args.number c.requires.fit c.requires.number)
