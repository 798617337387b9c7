use Rattle.mind_inputs.specs.Words.{Paths}
use Rattle.mind_inputs.proofs.Checkables.{run-stops, journal-stops, all-read}
use Rattle.mind_inputs.proofs.journals.load_for_check.Goals as goal

pub returns-in-Err-clause-brings : goal.returns-in-Err-clause-brings
returns-in-Err-clause-brings g c =
    let p : Paths = record { rack = c.args.rack.now; schedule = c.args.schedule.now } in
    run-stops (g.S.Store.holds c.args.store.now) p c.args.journal.now _ _ _ _ c.in-Err.stopped c.in-Err.ensures.loads

pub returns-in-Err-load_journal-clause-brings : goal.returns-in-Err-load_journal-clause-brings
returns-in-Err-load_journal-clause-brings g c =
    let p : Paths = record { rack = c.args.rack.now; schedule = c.args.schedule.now } in
    journal-stops (g.S.Store.holds c.args.store.now) (g.S.Store.holds c.load.new.store) p c.args.journal.now c.in-Ok.loaded _ _ _ _ _ _ c.in-Err-load_journal.stopped
    c.in-Ok.ensures.keeps c.in-Ok.ensures.loads c.in-Err-load_journal.ensures.brings

pub returns-clause-brings : goal.returns-clause-brings
returns-clause-brings g c =
    let p : Paths = record { rack = c.args.rack.now; schedule = c.args.schedule.now } in
    all-read (g.S.Store.holds c.args.store.now) (g.S.Store.holds c.load.new.store) p c.args.journal.now c.in-Ok.loaded c.in-Ok-load_journal.log.notes _ _ _ _ _ _
    c.in-Ok.ensures.keeps c.in-Ok.ensures.loads c.in-Ok-load_journal.ensures.brings
