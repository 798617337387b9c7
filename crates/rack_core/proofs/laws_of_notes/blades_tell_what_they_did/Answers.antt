use Rattle.coherence.proofs.Callers.{lawful_in}
use Rattle.rack_core.specs.Seen.{seen}
use Rattle.rack_core.proofs.Log.Held.Blades.{step_tells, drain_tells, evict_tells, handed_tells, within_new}
use Rattle.rack_core.proofs.laws_of_notes.blades_tell_what_they_did.Goals as goal

pub returns-clause-step : goal.returns-clause-step
returns-clause-step c = λ images h plan old new noted flat newer coherent within sound frames leads.
    let told = step_tells images h plan old new noted flat newer (lawful_in plan (seen old flat) coherent within) sound frames leads in
    (told.tells, told.frames)

pub returns-clause-drain : goal.returns-clause-drain
returns-clause-drain c = λ images h plan old new noted flat newer coherent within sound frames leads.
    let told = drain_tells images h plan old new noted flat newer (lawful_in plan (seen old flat) coherent within) sound frames leads in
    (told.tells, told.frames)

pub returns-clause-evict : goal.returns-clause-evict
returns-clause-evict c = λ images blade page plan old new noted flat newer coherent within sound frames leads.
    let told = evict_tells images blade page plan old new noted flat newer (lawful_in plan (seen old flat) coherent within) sound frames leads in
    (told.tells, told.frames)

pub returns-clause-message : goal.returns-clause-message
returns-clause-message c = λ images blade message rest plan old new noted flat newer coherent within sound frames hands.
    let told = handed_tells images blade message rest plan old new noted flat newer coherent within sound frames hands in
    (told.tells, told.frames)

pub returns-clause-within : goal.returns-clause-within
returns-clause-within c = within_new
