use Rattle.std.proofs.Common.{subst, ◌∙◌, []}
use Rattle.mind_base.specs.declared.notes.Note.TheVariants as note
use Rattle.coherence.specs.Held.{held_by, no_holdings}
use Rattle.tso_machine.specs.State.{start_state}
use Rattle.rack_core.specs.Accesses.{AreAccessesHeld, DrainHolds, ExecHolds}
use Rattle.rack_core.specs.StandLog.{made_from}
use Rattle.rack_core.proofs.Log.Accesses.Logs.{accesses-at, states-led}
use Rattle.rack_core.proofs.Machine.Logs.{runs-log, runs-stay}
use Rattle.rack_core.proofs.Machine.Starts.{start-logs}
use Rattle.rack_core.proofs.Events.Starting.{starts}
use Rattle.rack_core.proofs.laws_of_accesses.accesses_hold_their_pages.Goals as goal

pub returns-clause-log : goal.returns-clause-log
returns-clause-log c = λ images plan events first last noted fit start of reaches counted.
    let stands = runs-log images events first last [] noted of (start-logs images plan first fit start) reaches counted in
    subst (λ p. AreAccessesHeld (made_from images p) (start_state (made_from images p)) no_holdings noted)
    ((runs-stay images events first last noted of (starts plan first fit start) reaches).plan ∙ start.of_plan) stands.accesses

pub returns-clause-performs : goal.returns-clause-performs
returns-clause-performs c = λ images rack before later h m thread access stands run planned next performed.
    let setup = made_from images rack.plan in
    subst (λ s. ExecHolds setup s (held_by before) h) (states-led setup (start_state setup) m before run)
    (accesses-at setup (start_state setup) no_holdings before (note.Exec h) later stands.accesses) thread access planned next performed

pub returns-clause-drains : goal.returns-clause-drains
returns-clause-drains c = λ images rack before later h m thread running oldest newer stands run planned there buffer.
    let setup = made_from images rack.plan in
    subst (λ s. DrainHolds setup s (held_by before) h) (states-led setup (start_state setup) m before run)
    (accesses-at setup (start_state setup) no_holdings before (note.Drain h) later stands.accesses) thread running oldest newer planned there buffer
