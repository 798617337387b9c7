-- How what the code answers meets how an input is judged.
use Rattle.std.specs.Prelude.{◌≡◌, Result, Ok, Err}
use Rattle.mind_inputs.specs.Inputs.{Ending, Refused}
use Rattle.mind_inputs.specs.declared.stopped.Stopped.{Stopped}
use Rattle.mind_inputs.specs.declared.stopped.Stopped.TheVariants as stopped

-- Code that was given the bytes answers as they are judged, unless memory ran out.
abbrev pub GivesEnding : {X : Type 0} → Result X Stopped → Result X Ending → Type 0
GivesEnding (Ok x) judged = judged ≡ Ok x
GivesEnding (Err (stopped.Refused refusal)) judged = judged ≡ Err (Refused refusal)
GivesEnding (Err stopped.ReadFault) judged = ⊥
GivesEnding (Err stopped.NoMemory) judged = Unit {0}
