-- What was written to a sink, and when a write may fail.
use Rattle.std.specs.Prelude.{◌≡◌, ℕ, List, ◌++◌, Option, Some, None, Result, Ok, Err}
use Rattle.mind_base.specs.Store.{Rises}
use Rattle.mind_base.specs.declared.sinks.WriteError.{WriteError}

-- these bytes were put behind what was written, where the sink tells what was written
abbrev pub Appends : Option (List ℕ) → Option (List ℕ) → List ℕ → Type 0
Appends None new bytes = new ≡ None
Appends (Some old) new bytes = new ≡ Some (old ++ bytes)

-- a front of the bytes was put there
abbrev pub AppendsFront : Option (List ℕ) → Option (List ℕ) → List ℕ → Type 0
AppendsFront old new bytes = (front : List ℕ) × (rest : List ℕ) × (bytes ≡ front ++ rest) × Appends old new front

-- a write puts all the bytes there; one that fails puts a front of them, and the count of faults rose
abbrev pub Writes : Option (List ℕ) → Option (List ℕ) → ℕ → ℕ → List ℕ → Result (Unit {0}) WriteError → Type 0
Writes old new faults faults' bytes (Ok done) = Appends old new bytes
Writes old new faults faults' bytes (Err failure) = Rises faults faults' × AppendsFront old new bytes
