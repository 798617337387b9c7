use Rattle.std.proofs.Common.{rules}
use Rattle.tso_machine.proofs.Commanding.{command-leads}
use Rattle.tso_machine.proofs.machines.Machine.take_command.Goals as goal

pub returns-clause-ok : goal.returns-clause-ok
returns-clause-ok c = λ state stands. command-leads c.args.self.now _ state c.args.index c.in-Some.command c.decide-outcome.result
    (search rules)
    (search rules)
    (record { outcome_is = search rules; threads = search rules; bytes = search rules; perms = search rules; taken = search rules })
    stands
