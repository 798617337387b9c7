use Rattle.mind_top.proofs.Decided.{one-status, check-says}
use Rattle.mind_top.proofs.laws.the_files_decide.Goals as goal

pub returns-clause-form : goal.returns-clause-form
returns-clause-form c = λ files form a b p q. one-status files form a b p q

pub returns-clause-check : goal.returns-clause-check
returns-clause-check c = λ files words paths journal answer left due text is judges by. check-says files words paths journal answer left due text is judges by
