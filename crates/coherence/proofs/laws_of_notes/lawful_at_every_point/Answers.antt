use Rattle.coherence.proofs.Telling.{lawful_at_point, lawful_from_points}
use Rattle.coherence.proofs.laws_of_notes.lawful_at_every_point.Goals as goal

pub returns-clause-each : goal.returns-clause-each
returns-clause-each c = lawful_at_point

pub returns-clause-all : goal.returns-clause-all
returns-clause-all c = lawful_from_points
