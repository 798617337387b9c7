use Rattle.std.proofs.Common.{refl}
use Rattle.compute_blade.specs.Harts.{hart_changed}
use Rattle.compute_blade.proofs.Moving.{read_here, changed_own}
use Rattle.compute_blade.proofs.Placing.{stays_here}
use Rattle.compute_blade.proofs.blades.ComputeBlade.change_hart.Goals as goal

pub returns-clause-done : goal.returns-clause-done
returns-clause-done c =
    let read = read_here c.self.view_is c.requires c.from.ensures c.index_mut.ensures.value c.in-Some.is in
    changed_own (hart_changed c.args.change) _ _ _ _ _ _ c.change_by.new.self read c.change_by.ensures.done

pub invariant_of-self-2 : goal.invariant_of-self-2
invariant_of-self-2 c = (stays_here c.change_by.new.self c.self.inside.cache c.self.view_is c.requires c.from.ensures c.index_mut.ensures.value c.in-Some.is c.self.invariant c.change_by.ensures.like refl).shape

pub returns-clause-keeps : goal.returns-clause-keeps
returns-clause-keeps c = stays_here c.change_by.new.self c.self.inside.cache c.self.view_is c.requires c.from.ensures c.index_mut.ensures.value c.in-Some.is c.self.invariant c.change_by.ensures.like refl
