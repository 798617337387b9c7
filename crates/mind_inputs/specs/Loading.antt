-- What the code that loads the inputs answers, whether the store tells what it holds or not.
use Rattle.std.specs.Prelude.{◌≡◌, ◌⊎◌, ℕ, Option, Some, None, Result, Ok, Err}
use Rattle.mind_base.specs.Store.{Files, Rises}
use Rattle.mind_base.specs.declared.stores.ReadError.{ReadError}
use Rattle.mind_base.specs.declared.stores.ReadError.TheVariants as read
use Rattle.mind_inputs.specs.declared.refusals.Refusal.{Refusal}
use Rattle.mind_inputs.specs.Inputs.{Ending, Missing, Refused}
use Rattle.mind_inputs.specs.declared.stopped.Stopped.{Stopped}
use Rattle.mind_inputs.specs.declared.stopped.Stopped.TheVariants as stopped

-- where the store tells what it holds, a failed read is a failed device, or this is missing
abbrev pub MissTold : Option Files → Type 0 → ℕ → ℕ → Type 0
MissTold None missing faults faults' = Unit {0}
MissTold (Some files) missing faults faults' = Rises faults faults' ⊎ missing

-- the counts of failed devices and missing names of a store stand as they were
abbrev pub Stays : ℕ → ℕ → ℕ → ℕ → Type 0
Stays faults faults' missed missed' = (faults' ≡ faults) × (missed' ≡ missed)

-- Why inputs were not brought: the one that ends the call was refused; or a read failed, and only with its cause; want of
-- memory may come at any time. Only a read that fails and ends the call raises a count.
abbrev pub StopsBy : Option Files → (Ending → Type 0) → ℕ → ℕ → ℕ → ℕ → Stopped → Type 0
StopsBy holds ends faults faults' missed missed' (stopped.Refused refusal) = ends (Refused refusal) × Stays faults faults' missed missed'
StopsBy holds ends faults faults' missed missed' stopped.ReadFault =
    (Rises faults faults' ⊎ Rises missed missed') × MissTold holds (ends Missing) faults faults'
StopsBy holds ends faults faults' missed missed' stopped.NoMemory = Stays faults faults' missed missed'

-- the inputs, or a part of them, are brought as they are judged, and no read of them failed
abbrev pub Brings : {X : Type 0} → Option Files → (Result X Ending → Type 0) → ℕ → ℕ → ℕ → ℕ → Result X Stopped → Type 0
Brings holds judges faults faults' missed missed' (Ok x) = judges (Ok x) × Stays faults faults' missed missed'
Brings holds judges faults faults' missed missed' (Err why) = StopsBy holds (λ ending. judges (Err ending)) faults faults' missed missed' why

-- what a read that gave no bytes makes of the run
abbrev pub stopped_of : ReadError → Refusal → Stopped
stopped_of read.Failed long = stopped.ReadFault
stopped_of (read.TooLong n) long = stopped.Refused long
stopped_of read.NoMemory long = stopped.NoMemory
