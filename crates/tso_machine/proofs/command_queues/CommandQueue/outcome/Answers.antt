use Rattle.std.proofs.Common.{arith}
use Rattle.tso_machine.proofs.Marking.{outcome-at, outcome-changes, no-outcome}
use Rattle.tso_machine.proofs.command_queues.CommandQueue.outcome.Goals as goal

pub returns-then-index-self-clause-taken : goal.returns-then-index-self-clause-taken
returns-then-index-self-clause-taken c =
    rw (← c.self.view_is) (outcome-at c.self.inside.outcomes.items c.self.inside.next c.args.index c.index.result.now c.if-index-self.true
    (omega (arith, c.if-index-self.true, c.self.invariant.passed.room, c.self.invariant.passed.within)) c.index.ensures)

pub returns-then-index-self-clause-change : goal.returns-then-index-self-clause-change
returns-then-index-self-clause-change c =
    rw (← c.self.view_is) (outcome-changes c.self.inside.commands c.self.inside.outcomes.items c.self.inside.next c.args.index c.index.result.now c.self.invariant c.if-index-self.true
    (omega (arith, c.if-index-self.true, c.self.invariant.passed.room, c.self.invariant.passed.within)) c.index.ensures)

pub returns-else-index-self-clause-taken : goal.returns-else-index-self-clause-taken
returns-else-index-self-clause-taken c =
    rw (← c.self.view_is) (no-outcome c.self.inside.outcomes.items c.self.inside.next c.args.index
    (omega (arith, c.self.invariant.passed.room, c.self.invariant.passed.within)) c.if-index-self.false)
