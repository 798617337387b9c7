use Rattle.schedule_text.proofs.entries.frame_event.Goals as goal

pub returns-clause-fits : goal.returns-clause-fits
returns-clause-fits c = c.befalls.ensures.fits c.args.sizes c.in_ok-link.ensures.fits
