use Rattle.journal_text.proofs.Judgements.{one}
use Rattle.journal_text.proofs.Spellings.{same-line}
use Rattle.journal_text.proofs.laws.one_judgement.Goals as goal

pub returns-clause-judged : goal.returns-clause-judged
returns-clause-judged c = λ bytes a b p q. one bytes a b p q

pub returns-clause-lines : goal.returns-clause-lines
returns-clause-lines c = λ a b x y p q e. same-line a b x y p q e
