use Rattle.rack_core.proofs.Log.Held.Rack.{event_tells, logs_lawful, logs_tell}
use Rattle.rack_core.proofs.laws_of_notes.logs_tell_what_is_there.Goals as goal

pub returns : goal.returns
returns c = record { event = event_tells; log = logs_tell; point = logs_lawful }
