-- What a call of a rack leaves, however it ends.
use Rattle.std.specs.Prelude.{◌≡◌, List, Result, Err, OnErr, OnOk}
use Rattle.mind_base.specs.declared.failures.Stop.{Stop}
use Rattle.mind_base.specs.declared.failures.Stop.TheVariants.{Spent}
use Rattle.mind_base.specs.declared.notes.Note.{Note}
use Rattle.compute_blade.specs.Blade.{BeginsWith}
use Rattle.rack_core.specs.Calls.{HasSpentNumber}
use Rattle.rack_core.specs.Rack.{RackView}
use Rattle.rack_core.specs.Shape.{IsShaped}

-- A call with this result leaves the rack's plan. It keeps the rack's shape where it does not stop, has spent a number
-- where it says so, and puts notes behind the log at the most.
pub record Leaves {T : Type 0} (result : Result T Stop) (old new : RackView) (before behind : List Note) : Type 0 where
  pub shape : OnOk result (IsShaped new)
  pub spent : result ≡ Err Spent → HasSpentNumber new
  pub err : OnErr result (BeginsWith before behind)
  pub plan : new.plan ≡ old.plan
