use Rattle.schedule_text.proofs.Fitting.{still_fit}
use Rattle.schedule_text.proofs.schedules.add_line.Goals as goal

pub returns-clause-numbers : goal.returns-clause-numbers
returns-clause-numbers c =
    rw c.in_ok-push_entry.ensures (still_fit c.args.sizes c.args.events.now.items c.in-Ok.entry c.requires.numbers c.in-Ok.ensures.fits)
