-- A rack that ran through the events of accepted inputs.
use Rattle.std.specs.Prelude.{◌≡◌, List, ◌∷◌, ◌++◌, length}
use Rattle.mind_base.specs.declared.events.Event.{Event}
use Rattle.mind_base.specs.declared.notes.Note.{Note}
use Rattle.mind_inputs.specs.Inputs.{Accepted}
use Rattle.mind_steps.specs.Run.{setup_of}
use Rattle.rack_core.specs.Calls.{IsKept}
use Rattle.rack_core.specs.Rack.{RackView}
use Rattle.rack_core.specs.StandLog.{StandsForLog}
use Rattle.rack_core.specs.Start.{IsStart}
use Rattle.rack_settle.specs.Prompt.{HappensInLog}
use Rattle.rack_settle.specs.Ran.{Ran}
use Rattle.rack_settle.specs.Stretches.{HasSettledLabels}

-- The rack is that at the end of all events of the accepted inputs: it is reached from the rack that their plan
-- starts with the notes of the log, it stands for the log, and it is kept as each further event and settling asks. What the
-- schedule's settlings say of the labels is so, and each event has the labels that can stand in it at once.
pub record RanThrough (accepted : Accepted) (log : List Note) (rack : RackView) : Type 0 where
  pub plan : rack.plan ≡ accepted.plan
  pub first : RackView
  pub start : IsStart accepted.plan first
  pub ran : Ran accepted.images 0 accepted.events first rack log
  pub stands : StandsForLog accepted.images rack log
  pub kept : IsKept rack
  pub settled : HasSettledLabels (setup_of accepted.plan accepted.images) accepted.plan accepted.events log
  pub at_once : (before after : List Event) (event : Event) → accepted.events ≡ before ++ (event ∷ after)
      → HappensInLog (setup_of accepted.plan accepted.images) log (length before) event (length after)
