use Rattle.coherence.proofs.Telling.{lawful_when_coherent, tells_nothing, tells_then}
use Rattle.coherence.proofs.TellingEnds.{lawful_between}
use Rattle.coherence.proofs.laws_of_notes.notes_tell_what_is_there.Goals as goal

pub returns-clause-lawful : goal.returns-clause-lawful
returns-clause-lawful c = lawful_when_coherent

pub returns-clause-nothing : goal.returns-clause-nothing
returns-clause-nothing c = λ plan old new held states. tells_nothing plan old new (record { held = held; states = states })

pub returns-clause-in_a_row : goal.returns-clause-in_a_row
returns-clause-in_a_row c = tells_then

pub returns-clause-between : goal.returns-clause-between
returns-clause-between c = λ plan held a b now one other blocks between. lawful_between plan held a b now one other blocks between
