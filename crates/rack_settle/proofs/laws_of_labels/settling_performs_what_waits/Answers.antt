use Rattle.rack_settle.proofs.LabelRuns.{quiet-owes, settling, settling-none, settling-one, start-owes}
use Rattle.rack_settle.proofs.laws_of_labels.settling_performs_what_waits.Goals as goal

pub returns : goal.returns
returns c = record { labels = settling; one = settling-one; none = settling-none; quiet = quiet-owes; starts = start-owes }
