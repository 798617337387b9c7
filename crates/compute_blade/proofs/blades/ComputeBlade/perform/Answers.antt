use Rattle.std.proofs.Common.{◌≡◌, rules}
use Rattle.compute_blade.specs.Blade.{last_store}
use Rattle.compute_blade.proofs.Moving.{read_here, spent_at, performed_own}
use Rattle.compute_blade.proofs.Placing.{stays_here}
use Rattle.compute_blade.proofs.blades.ComputeBlade.perform.Goals as goal

pub returns-in_err-perform-clause-spent : goal.returns-in_err-perform-clause-spent
returns-in_err-perform-clause-spent c = λ err.
    let read = read_here c.self.view_is c.requires.own c.from.ensures c.index_mut.ensures.value c.in-Some.is in
    let spent : c.in-Some.hart.stores ≡ last_store = search rules in
    spent_at _ _ _ _ _ _ c.perform.new.self c.perform.new.cache read c.in_err-perform.ensures.err spent

pub returns-clause-ok : goal.returns-clause-ok
returns-clause-ok c =
    let read = read_here c.self.view_is c.requires.own c.from.ensures c.index_mut.ensures.value c.in-Some.is in
    performed_own _ c.args.doing.mover.plan c.args.doing.found c.args.doing.pc _ _ _ _ _ c.perform.new.self c.perform.new.cache _ _ read c.in_ok-perform.ensures.ok c.in_ok-add.ensures.ok

pub invariant_of-self-in_err-add : goal.invariant_of-self-in_err-add
invariant_of-self-in_err-add c = (stays_here c.perform.new.self c.perform.new.cache c.self.view_is c.requires.own c.from.ensures c.index_mut.ensures.value c.in-Some.is c.self.invariant c.perform.ensures.like c.perform.ensures.frames).shape

pub returns-in_err-add-clause-keeps : goal.returns-in_err-add-clause-keeps
returns-in_err-add-clause-keeps c = stays_here c.perform.new.self c.perform.new.cache c.self.view_is c.requires.own c.from.ensures c.index_mut.ensures.value c.in-Some.is c.self.invariant c.perform.ensures.like c.perform.ensures.frames

pub invariant_of-self-2 : goal.invariant_of-self-2
invariant_of-self-2 c = (stays_here c.perform.new.self c.perform.new.cache c.self.view_is c.requires.own c.from.ensures c.index_mut.ensures.value c.in-Some.is c.self.invariant c.perform.ensures.like c.perform.ensures.frames).shape

pub returns-clause-keeps : goal.returns-clause-keeps
returns-clause-keeps c = stays_here c.perform.new.self c.perform.new.cache c.self.view_is c.requires.own c.from.ensures c.index_mut.ensures.value c.in-Some.is c.self.invariant c.perform.ensures.like c.perform.ensures.frames
