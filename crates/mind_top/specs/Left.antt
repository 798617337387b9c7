-- What a call of the program leaves: the log of a run, and its rack.
use Rattle.std.specs.Prelude.{◌≡◌, List, [], Option, None}
use Rattle.mind_base.specs.declared.notes.Note.{Note}
use Rattle.rack_core.specs.Rack.{RackView}

pub record Left : Type 0 where
  pub log : List Note
  pub end : Option RackView

-- neither a log nor a rack
abbrev pub LeavesNothing : Left → Type 0
LeavesNothing left = (left.log ≡ []) × (left.end ≡ None)
