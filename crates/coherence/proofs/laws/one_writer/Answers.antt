use Rattle.coherence.proofs.BladeMoves.{single_writer}
use Rattle.coherence.proofs.laws.one_writer.Goals as goal

pub returns-clause-single_writer : goal.returns-clause-single_writer
returns-clause-single_writer c = single_writer

pub returns-clause-newest : goal.returns-clause-newest
returns-clause-newest c = λ w blade page frame h e. (h.frames blade page frame e).newest
