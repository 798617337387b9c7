use Rattle.std.proofs.Common.{◌≡◌, List, length, get_or, ap, subst, arith}
use Rattle.mind_base.specs.declared.commands.Command.{Command}
use Rattle.tso_machine.proofs.Marking.{is-next, not-next, next-changes}
use Rattle.tso_machine.proofs.command_queues.CommandQueue.command_if_next.Goals as goal

pub returns-then-index-self-clause-next : goal.returns-then-index-self-clause-next
returns-then-index-self-clause-next c =
    rw (← c.self.view_is) (not-next c.self.inside.commands c.self.inside.outcomes.items c.self.inside.next c.args.index c.self.invariant (λ e. absurd (c.if-index-self.true e)))

pub returns-then-self-commands-clause-next : goal.returns-then-self-commands-clause-next
returns-then-self-commands-clause-next c =
    rw (← c.self.view_is) (not-next c.self.inside.commands c.self.inside.outcomes.items c.self.inside.next c.args.index c.self.invariant
    (λ e. omega (arith, c.if-self-commands.true, ap length c.as_slice-commands.ensures)))

pub returns-clause-next : goal.returns-clause-next
returns-clause-next c =
    let at : List Command → Type 0 = λ cs. c.index-commands-self.result ≡ get_or cs c.self.inside.next c.index-commands-self.result in
    rw (← c.self.view_is) (is-next c.self.inside.commands c.self.inside.outcomes.items c.self.inside.next c.args.index c.index-commands-self.result c.self.invariant c.if-index-self.false
    (omega (arith, c.if-self-commands.false, ap length c.as_slice-commands.ensures)) (subst at c.as_slice-commands.ensures c.index-commands-self.is))

pub returns-clause-change : goal.returns-clause-change
returns-clause-change c =
    let at : List Command → Type 0 = λ cs. c.index-commands-self.result ≡ get_or cs c.self.inside.next c.index-commands-self.result in
    next-changes c.self.inside.commands c.self.inside.outcomes.items c.self.inside.next c.index-commands-self.result c.self.invariant
    (omega (arith, c.if-self-commands.false, ap length c.as_slice-commands.ensures)) (subst at c.as_slice-commands.ensures c.index-commands-self.is)
