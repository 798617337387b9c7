-- How the parts of a call end, for the proof of the whole.
use Rattle.std.specs.Prelude.{◌≡◌, ◌⊎◌, ℕ, List, Option, None, Result, Ok, Err}
use Rattle.mind_base.specs.Store.{Files, Rises}
use Rattle.mind_base.specs.Sink.{Appends, AppendsFront}
use Rattle.mind_inputs.specs.Refusal.{line_of}
use Rattle.mind_inputs.specs.Inputs.{Accepted}
use Rattle.mind_inputs.specs.Journals.{Checkable}
use Rattle.mind_inputs.specs.declared.stopped.Stopped.{Stopped}
use Rattle.mind_inputs.specs.declared.stopped.Stopped.TheVariants as stopped
use Rattle.mind_top.specs.Words.{Form, IsForm}
use Rattle.mind_top.specs.Due.{IsWhole, IsStuck, not_a_run_line}
use Rattle.mind_top.specs.Ending.{Counts, EndsWith}
use Rattle.mind_top.specs.Headline.{RunWrites, HasFinished, IsStopped}
use Rattle.mind_top.specs.Left.{Left, LeavesNothing}
use Rattle.mind_top.specs.declared.words.Output.{Output}
use Rattle.mind_top.specs.declared.statuses.Status.{Status}
use Rattle.mind_top.specs.declared.statuses.Status.TheVariants as status

-- a text was written and the status is the one due, or the write failed and a front of the text stands there
abbrev pub SaysText : Option (List ℕ) → Option (List ℕ) → ℕ → ℕ → List ℕ → Status → Status → Type 0
SaysText old new failed failed' text due result =
    ((result ≡ due) × Appends old new text) ⊎ ((result ≡ status.WriteFault) × Rises failed failed' × AppendsFront old new text)

-- a line was written or its write failed, or there was no memory for the line
abbrev pub SaysLine : Option (List ℕ) → Option (List ℕ) → ℕ → ℕ → List ℕ → Status → Status → Type 0
SaysLine old new failed failed' text due result = ((result ≡ status.NoMemory) × (new ≡ old)) ⊎ SaysText old new failed failed' text due result

-- what ends a call whose inputs were not brought
abbrev pub Stops : Option (List ℕ) → Option (List ℕ) → ℕ → ℕ → Stopped → Status → Type 0
Stops old new failed failed' (stopped.Refused refusal) result = SaysLine old new failed failed' (line_of refusal) status.Malformed result
Stops old new failed failed' stopped.ReadFault result = (result ≡ status.ReadFault) × (new ≡ old)
Stops old new failed failed' stopped.NoMemory result = (result ≡ status.NoMemory) × (new ≡ old)

-- how a run of accepted inputs ends
abbrev pub RunEnds : Output → Accepted → Left → Option (List ℕ) → Option (List ℕ) → ℕ → ℕ → Status → Type 0
RunEnds output accepted left old new failed failed' result =
    ((result ≡ status.NoMemory) × (new ≡ old) × (left.end ≡ None) × HasFinished accepted left.log)
    ⊎ (((result ≡ status.Spent) × (new ≡ old) × IsStopped accepted left)
    ⊎ ((text : List ℕ) × RunWrites output accepted left text × SaysText old new failed failed' text status.Done result))

-- how a call ends whose inputs were brought to be run, or were not
abbrev pub LoadedEnds : Output → Left → Option (List ℕ) → Option (List ℕ) → ℕ → ℕ → Status → Result Accepted Stopped → Type 0
LoadedEnds output left old new failed failed' result (Ok accepted) = RunEnds output accepted left old new failed failed' result
LoadedEnds output left old new failed failed' result (Err why) = LeavesNothing left × Stops old new failed failed' why result

-- how the check of accepted inputs ends
abbrev pub CheckEnds : Checkable → Option (List ℕ) → Option (List ℕ) → ℕ → ℕ → Status → Type 0
CheckEnds inputs old new failed failed' result =
    ((result ≡ status.NoMemory) × (new ≡ old))
    ⊎ (((text : List ℕ) × IsWhole inputs text × SaysText old new failed failed' text status.Done result)
    ⊎ ((label : ℕ) × IsStuck inputs label × SaysLine old new failed failed' (not_a_run_line label) status.NotARun result))

-- how a call of this form ends
abbrev pub Answers : Option Files → Form → Left → Counts → Counts → Option (List ℕ) → Option (List ℕ) → Status → Type 0
Answers holds form left before now old new result = (words : List (List ℕ)) → IsForm words form → EndsWith holds words left before now old new result
