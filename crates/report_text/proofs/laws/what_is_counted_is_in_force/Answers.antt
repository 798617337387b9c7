use Rattle.report_text.proofs.InForce.{force-agrees, peak-within}
use Rattle.report_text.proofs.laws.what_is_counted_is_in_force.Goals as goal

pub returns-clause-blocks : goal.returns-clause-blocks
returns-clause-blocks c = λ plan log lawful. force-agrees plan log lawful

pub returns-clause-peak : goal.returns-clause-peak
returns-clause-peak c = λ plan log lawful. peak-within plan log lawful
