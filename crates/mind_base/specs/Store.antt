-- What a store of files holds, and when a read of it may fail.
use Rattle.std.specs.Prelude.{◌≡◌, ℕ, ◌+◌, ◌-◌, ◌^◌, ◌<◌, ◌≤◌, ◌⊎◌, min, List, [], ◌∷◌, ◌++◌, length, Option, Some, None, Result, Ok, Err}
use Rattle.std.specs.Global.{Vec}
use Rattle.std.specs.Ordering.{nat_cmp}
use Rattle.std.specs.Cmp.Lexicographic.{slice_cmp}
use Rattle.std.specs.FinMap as finite
use Rattle.mind_base.specs.declared.stores.ReadError.{ReadError}
use Rattle.mind_base.specs.declared.stores.ReadError.TheVariants as read

-- files: their bytes, by the bytes of their names
abbrev pub Files : Type 0
Files = finite.FinMap (slice_cmp nat_cmp) (List ℕ)

-- the files of a list of names and contents; of two of one name the first counts
abbrev pub file_map : List (List ℕ × List ℕ) → Files
file_map files = finite.from_entries files

-- What a store tells of a name: nothing, where it does not tell what it holds; else its bytes, where it holds it.
abbrev pub held : Option Files → List ℕ → Option (Option (List ℕ))
held None name = None
held (Some files) name = Some (finite.get files name)

-- a count that never falls when it rose by one; at the greatest 64-bit number it stands still
abbrev pub risen : ℕ → ℕ
risen count = min (count + 1) (2 ^ 64 - 1)

-- A count that never falls rose; one that stands at the greatest 64-bit number counts as risen.
abbrev pub Rises : ℕ → ℕ → Type 0
Rises before now = risen before ≤ now

-- Why a read fails: a device failed, or the store misses the name, which it cannot where it tells that it holds it.
abbrev pub FailedBy : Option (Option (List ℕ)) → ℕ → ℕ → ℕ → ℕ → Type 0
FailedBy (Some (Some bytes)) faults faults' missed missed' = Rises faults faults'
FailedBy (Some None) faults faults' missed missed' = Rises faults faults' ⊎ Rises missed missed'
FailedBy None faults faults' missed missed' = Rises faults faults' ⊎ Rises missed missed'

-- a read of a name that the store tells to hold misses nothing
abbrev pub MissedStays : Option (Option (List ℕ)) → ℕ → ℕ → Type 0
MissedStays (Some (Some bytes)) missed missed' = missed' ≡ missed
MissedStays (Some None) missed missed' = Unit {0}
MissedStays None missed missed' = Unit {0}

-- why a read did not give the bytes; want of memory may come at any time
abbrev pub ErrorBy : Option (Option (List ℕ)) → ℕ → ℕ → ℕ → ℕ → ℕ → Result (Vec ℕ) ReadError → Type 0
ErrorBy h faults faults' missed missed' limit (Ok bytes) = Unit {0}
ErrorBy h faults faults' missed missed' limit (Err read.Failed) = FailedBy h faults faults' missed missed'
ErrorBy h faults faults' missed missed' limit (Err (read.TooLong n)) = limit < n
ErrorBy h faults faults' missed missed' limit (Err read.NoMemory) = Unit {0}

-- the counts of a store after a read of a name with this limit, and the cause of its answer
pub record ReadHasCause (h : Option (Option (List ℕ))) (faults faults' missed missed' limit : ℕ) (result : Result (Vec ℕ) ReadError) : Type 0 where
  pub faults_stay : faults ≤ faults'
  pub missed_stay : missed ≤ missed'
  pub missed_same : MissedStays h missed missed'
  pub error : ErrorBy h faults faults' missed missed' limit result

-- a read that did not fail raises neither count
abbrev pub StaysUnlessFailed : ℕ → ℕ → ℕ → ℕ → Result (Vec ℕ) ReadError → Type 0
StaysUnlessFailed faults faults' missed missed' (Ok bytes) = (faults' ≡ faults) × (missed' ≡ missed)
StaysUnlessFailed faults faults' missed missed' (Err read.Failed) = Unit {0}
StaysUnlessFailed faults faults' missed missed' (Err (read.TooLong n)) = (faults' ≡ faults) × (missed' ≡ missed)
StaysUnlessFailed faults faults' missed missed' (Err read.NoMemory) = (faults' ≡ faults) × (missed' ≡ missed)

-- the name stands behind those that were asked for, where the store tells them
abbrev pub AsksFor : Option (List (List ℕ)) → Option (List (List ℕ)) → List ℕ → Type 0
AsksFor None asked' name = asked' ≡ None
AsksFor (Some names) asked' name = asked' ≡ Some (names ++ name ∷ [])

-- a read asks for its name, once; one without memory may end before it asks
abbrev pub Asks : Option (List (List ℕ)) → Option (List (List ℕ)) → List ℕ → Result (Vec ℕ) ReadError → Type 0
Asks asked asked' name (Ok bytes) = AsksFor asked asked' name
Asks asked asked' name (Err read.Failed) = AsksFor asked asked' name
Asks asked asked' name (Err (read.TooLong n)) = AsksFor asked asked' name
Asks asked asked' name (Err read.NoMemory) = (asked' ≡ asked) ⊎ AsksFor asked asked' name

-- the answer of a read by what is held under the name: those bytes, or that they are longer than the limit
abbrev pub TellsHeld : Option (List ℕ) → ℕ → Result (Vec ℕ) ReadError → Type 0
TellsHeld h limit (Ok bytes) = h ≡ Some bytes.items
TellsHeld h limit (Err read.Failed) = Unit {0}
TellsHeld h limit (Err (read.TooLong n)) = (bytes : List ℕ) × (h ≡ Some bytes) × (limit < length bytes)
TellsHeld h limit (Err read.NoMemory) = Unit {0}

abbrev pub ReadTells : Option (Option (List ℕ)) → ℕ → Result (Vec ℕ) ReadError → Type 0
ReadTells None limit result = Unit {0}
ReadTells (Some h) limit result = TellsHeld h limit result

-- what a reader that stops past the limit gives: at most that many bytes, or that more were seen
abbrev pub IsPiecewise : ℕ → Result (Vec ℕ) ReadError → Type 0
IsPiecewise limit (Ok bytes) = length bytes.items ≤ limit
IsPiecewise limit (Err read.Failed) = Unit {0}
IsPiecewise limit (Err (read.TooLong n)) = limit < n
IsPiecewise limit (Err read.NoMemory) = Unit {0}
