use Rattle.tso_machine.proofs.RowLemmas.{head, tail, bare, enabled}
use Rattle.tso_machine.proofs.laws_of_rows.a_command_waits_for_the_drains_before_it.Goals as goal

pub returns-clause-head : goal.returns-clause-head
returns-clause-head c = head

pub returns-clause-tail : goal.returns-clause-tail
returns-clause-tail c = tail

pub returns-clause-bare : goal.returns-clause-bare
returns-clause-bare c = bare

pub returns-clause-enabled : goal.returns-clause-enabled
returns-clause-enabled c = enabled
