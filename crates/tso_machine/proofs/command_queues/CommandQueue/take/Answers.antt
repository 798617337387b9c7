use Rattle.std.proofs.Common.{◌≡◌, List, Some, ap, sym, subst, arith, ◌+◌}
use Rattle.mind_base.specs.declared.commands.Command.{Command}
use Rattle.tso_machine.specs.Commands.{next_command}
use Rattle.std.specs.List.{slice_set}
use Rattle.tso_machine.specs.Queue.{CommandQueueView, IsPassed}
use Rattle.tso_machine.proofs.Marking.{next-known, passed-taken, taken-next}
use Rattle.tso_machine.proofs.command_queues.CommandQueue.take.Goals as goal

pub index_mut-requires : goal.index_mut-requires
index_mut-requires c =
    let P : CommandQueueView → Type 0 = λ q. next_command q.commands q.taken ≡ Some c.args.index in
    let k = next-known c.self.inside.commands c.self.inside.outcomes.items c.self.inside.next c.args.index c.self.invariant (subst P (sym c.self.view_is) c.requires) in
    omega (arith, k.1, c.self.invariant.passed.room, c.self.inside.outcomes.ok.0)

pub pass_moves-self-inside-requires : goal.pass_moves-self-inside-requires
pass_moves-self-inside-requires c =
    let P : CommandQueueView → Type 0 = λ q. next_command q.commands q.taken ≡ Some c.args.index in
    let k = next-known c.self.inside.commands c.self.inside.outcomes.items c.self.inside.next c.args.index c.self.invariant (subst P (sym c.self.view_is) c.requires) in
    let Q : List Command → Type 0 = λ cs. IsPassed cs (slice_set c.self.inside.outcomes.items c.self.inside.next (Some c.args.outcome)) (c.self.inside.next + 1) in
    subst Q (sym c.as_slice.ensures) (passed-taken c.self.inside.commands c.self.inside.outcomes.items c.self.inside.next c.args.outcome c.self.invariant k.1)

pub returns : goal.returns
returns c =
    let P : CommandQueueView → Type 0 = λ q. next_command q.commands q.taken ≡ Some c.args.index in
    rw (← c.self.view_is) (ap (λ taken. record { commands = c.self.inside.commands; taken = taken })
    (taken-next c.self.inside.commands c.self.inside.outcomes.items c.pass_moves-self-inside.new.outcomes.items c.self.inside.next c.pass_moves-self-inside.result c.args.index c.args.outcome
    c.self.invariant (subst P (sym c.self.view_is) c.requires) c.pass_moves-self-inside.ensures.taken))
