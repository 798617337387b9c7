-- What a call does to the counts of its store and its sink.
use Rattle.std.proofs.Common.{◌≡◌, ℕ, inl, inr, List, sym, subst, Option, Result, Ok, Err}
use Rattle.mind_base.specs.Store.{Files, risen}
use Rattle.mind_inputs.specs.Inputs.{Accepted, Judges, JudgesMade}
use Rattle.mind_inputs.specs.Words.{Paths}
use Rattle.mind_inputs.specs.Loading.{Stays, StopsBy, Brings}
use Rattle.mind_inputs.specs.declared.stopped.Stopped.{Stopped}
use Rattle.mind_inputs.specs.declared.stopped.Stopped.TheVariants as stopped
use Rattle.mind_top.specs.Due.{IsEndedBy, IsSaid}
use Rattle.mind_top.specs.Ending.{StaysUnlessReadFault, WritesOnce}
use Rattle.mind_top.specs.Left.{Left}
use Rattle.mind_top.specs.Words.{Form, Run, Load, IsForm}
use Rattle.mind_top.specs.Parts.{Stops, LoadedEnds}
use Rattle.mind_top.specs.declared.words.Output.{Output}
use Rattle.mind_top.specs.declared.words.Output.TheVariants.{Report}
use Rattle.mind_top.specs.declared.statuses.Status.{Status}
use Rattle.mind_top.specs.declared.statuses.Status.TheVariants as status

-- where no count of the store rose, every status may follow
pub stays-any : (f f' m m' : ℕ) → Stays f f' m m' → (s : Status) → StaysUnlessReadFault f f' m m' s
stays-any f f' m m' stays status.Done = stays
stays-any f f' m m' stays status.Usage = stays
stays-any f f' m m' stays status.Malformed = stays
stays-any f f' m m' stays status.ReadFault = tt
stays-any f f' m m' stays status.WriteFault = stays
stays-any f f' m m' stays status.NoMemory = stays
stays-any f f' m m' stays status.NotARun = stays
stays-any f f' m m' stays status.Spent = stays

-- an input of this form was not brought
pub stopped-stays : (holds : Option Files) (form : Form) (f f' m m' : ℕ) (old new : Option (List ℕ)) (failed failed' : ℕ) (why : Stopped) (result : Status)
    → StopsBy holds (λ ending. IsEndedBy holds form ending) f f' m m' why → Stops old new failed failed' why result → StaysUnlessReadFault f f' m m' result
stopped-stays holds form f f' m m' old new failed failed' (stopped.Refused refusal) result stops says = stays-any f f' m m' stops.1 result
stopped-stays holds form f f' m m' old new failed failed' stopped.ReadFault result stops (same, kept) = let P : Status → Type 0 = λ s. StaysUnlessReadFault f f' m m' s in subst P (sym same) tt
stopped-stays holds form f f' m m' old new failed failed' stopped.NoMemory result stops says = stays-any f f' m m' stops result

-- inputs were brought to be run, or were not
pub run-stays : (holds : Option Files) (words : List (List ℕ)) (output : Output) (paths : Paths) (loaded : Result Accepted Stopped) (left : Left) (f f' m m' : ℕ) (old new : Option (List ℕ)) (failed failed' : ℕ) (result : Status)
    → IsForm words (Run output paths) → Brings holds (Judges holds paths) f f' m m' loaded → LoadedEnds output left old new failed failed' result loaded → StaysUnlessReadFault f f' m m' result
run-stays holds words output paths (Ok accepted) left f f' m m' old new failed failed' result is loads ends = stays-any f f' m m' loads.1 result
run-stays holds words output paths (Err why) left f f' m m' old new failed failed' result is loads ends = stopped-stays holds (Run output paths) f f' m m' old new failed failed' why result loads ends.1

pub load-stays : (holds : Option Files) (words : List (List ℕ)) (rack : List ℕ) (count seed : ℕ) (loaded : Result Accepted Stopped) (left : Left) (f f' m m' : ℕ) (old new : Option (List ℕ)) (failed failed' : ℕ) (result : Status)
    → IsForm words (Load rack count seed) → Brings holds (JudgesMade holds rack count seed) f f' m m' loaded → LoadedEnds Report left old new failed failed' result loaded → StaysUnlessReadFault f f' m m' result
load-stays holds words rack count seed (Ok accepted) left f f' m m' old new failed failed' result is loads ends = stays-any f f' m m' loads.1 result
load-stays holds words rack count seed (Err why) left f f' m m' old new failed failed' result is loads ends = stopped-stays holds (Load rack count seed) f f' m m' old new failed failed' why result loads ends.1

-- a write of what is due
pub said-once : (writes writes' : ℕ) (due : Status) → writes' ≡ risen writes → IsSaid due → WritesOnce writes writes' due
said-once writes writes' status.Done once said = once
said-once writes writes' status.Usage once said = once
said-once writes writes' status.Malformed once said = once
said-once writes writes' status.NotARun once said = once
said-once writes writes' status.ReadFault once said = absurd said
said-once writes writes' status.WriteFault once said = absurd said
said-once writes writes' status.NoMemory once said = absurd said
said-once writes writes' status.Spent once said = absurd said
