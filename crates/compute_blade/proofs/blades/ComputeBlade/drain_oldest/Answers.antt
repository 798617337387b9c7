use Rattle.compute_blade.proofs.Moving.{read_here, spent_at, drained_own}
use Rattle.compute_blade.proofs.Placing.{stays_here}
use Rattle.compute_blade.proofs.blades.ComputeBlade.drain_oldest.Goals as goal

pub returns-in_err-drain-clause-spent : goal.returns-in_err-drain-clause-spent
returns-in_err-drain-clause-spent c = λ err.
    let read = read_here c.self.view_is c.requires.own.1 c.from.ensures c.index_mut.ensures.value c.in-Some.is in
    spent_at _ _ _ _ _ _ c.drain.new.self c.drain.new.cache read c.in_err-drain.ensures.err c.in_err-drain.ensures.spent

pub returns-clause-ok : goal.returns-clause-ok
returns-clause-ok c =
    let read = read_here c.self.view_is c.requires.own.1 c.from.ensures c.index_mut.ensures.value c.in-Some.is in
    drained_own _ c.args.mover.plan _ _ _ _ _ c.drain.new.self c.drain.new.cache _ _ read c.in_ok-drain.ensures.ok c.in_ok-add.ensures.ok

pub invariant_of-self-in_err-add : goal.invariant_of-self-in_err-add
invariant_of-self-in_err-add c = (stays_here c.drain.new.self c.drain.new.cache c.self.view_is c.requires.own.1 c.from.ensures c.index_mut.ensures.value c.in-Some.is c.self.invariant c.drain.ensures.like c.drain.ensures.frames).shape

pub returns-in_err-add-clause-keeps : goal.returns-in_err-add-clause-keeps
returns-in_err-add-clause-keeps c = stays_here c.drain.new.self c.drain.new.cache c.self.view_is c.requires.own.1 c.from.ensures c.index_mut.ensures.value c.in-Some.is c.self.invariant c.drain.ensures.like c.drain.ensures.frames

pub invariant_of-self-2 : goal.invariant_of-self-2
invariant_of-self-2 c = (stays_here c.drain.new.self c.drain.new.cache c.self.view_is c.requires.own.1 c.from.ensures c.index_mut.ensures.value c.in-Some.is c.self.invariant c.drain.ensures.like c.drain.ensures.frames).shape

pub returns-clause-keeps : goal.returns-clause-keeps
returns-clause-keeps c = stays_here c.drain.new.self c.drain.new.cache c.self.view_is c.requires.own.1 c.from.ensures c.index_mut.ensures.value c.in-Some.is c.self.invariant c.drain.ensures.like c.drain.ensures.frames
