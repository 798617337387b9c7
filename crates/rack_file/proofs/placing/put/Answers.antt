use Rattle.protect_table.proofs.Callers.{cover_of-fits}
use Rattle.rack_file.proofs.placing.put.Goals as goal

pub apply-requires-clause-room : goal.apply-requires-clause-room
apply-requires-clause-room c = cover_of-fits _ _ c.requires
