use Rattle.mind_inputs.proofs.Chains.{judges-judge, judges-made}
use Rattle.mind_inputs.proofs.Checkables.{only}
use Rattle.mind_inputs.proofs.laws.the_files_are_judged_one_way.Goals as goal

pub returns-clause-run : goal.returns-clause-run
returns-clause-run c = λ files paths judged judges. judges-judge files paths judged judges

pub returns-clause-made : goal.returns-clause-made
returns-clause-made c = λ files rack count seed judged judges. judges-made files rack count seed judged judges

pub returns-clause-check : goal.returns-clause-check
returns-clause-check c = λ files paths journal answer judges. only files paths journal answer judges
