-- Files in memory, as tests hand them to the program.
use Rattle.std.specs.Prelude.{◌≡◌, ℕ, ◌+◌, ◌-◌, ◌^◌, ◌<◌, ◌≤◌, min, Bool, true, false, ◌==◌, List, length, map, Option, Some, None, Result, Ok, Err}
use Rattle.std.specs.List.{list_any}
use Rattle.std.specs.FinMap.{get}
use Rattle.std.specs.Global.{Vec}
use Rattle.mind_base.specs.Store.{file_map, risen}
use Rattle.mind_base.specs.declared.stores.ReadError.{ReadError}
use Rattle.mind_base.specs.declared.stores.ReadError.TheVariants as read

-- the names and bytes of a list of files
abbrev pub contents : List (List ℕ × Vec ℕ) → List (List ℕ × List ℕ)
contents files = map (λ file. (file.0, file.1.items)) files

pub record MemStoreView : Type 0 where
  pub files : List (List ℕ × List ℕ)
  pub failing : List ℕ
  pub calls : ℕ
  pub faults : ℕ
  pub missed : ℕ

-- the call that comes is one of those that are to fail
abbrev pub fails_next : MemStoreView → Bool
fails_next store = list_any (λ call. store.calls == call) store.failing

-- one more call was made; the count of calls stands still at the greatest 32-bit number
abbrev pub one_call_more : MemStoreView → MemStoreView
one_call_more store = record store { calls = min (store.calls + 1) (2 ^ 32 - 1) }

-- the bytes of a file within the limit, unless memory runs out; a longer file is refused with its length
abbrev pub GivesFile : List ℕ → ℕ → Result (Vec ℕ) ReadError → Type 0
GivesFile bytes limit (Ok copy) = (copy.items ≡ bytes) × (length bytes ≤ limit)
GivesFile bytes limit (Err read.Failed) = ⊥
GivesFile bytes limit (Err (read.TooLong n)) = (n ≡ length bytes) × (limit < n)
GivesFile bytes limit (Err read.NoMemory) = length bytes ≤ limit

-- a name that is lacked is missed; else the file is given, and no count of failures rises
abbrev pub ReadsName : Option (List ℕ) → MemStoreView → MemStoreView → ℕ → Result (Vec ℕ) ReadError → Type 0
ReadsName None old new limit result = (result ≡ Err read.Failed) × (new ≡ record old { missed = risen old.missed })
ReadsName (Some bytes) old new limit result = (new ≡ old) × GivesFile bytes limit result

-- a read at a call that is to fail is a fault, and nothing else is
abbrev pub ReadsUnless : Bool → MemStoreView → MemStoreView → List ℕ → ℕ → Result (Vec ℕ) ReadError → Type 0
ReadsUnless true old new name limit result = (result ≡ Err read.Failed) × (new ≡ record old { faults = risen old.faults })
ReadsUnless false old new name limit result = ReadsName (get (file_map old.files) name) old new limit result

abbrev pub StoreReads : MemStoreView → MemStoreView → List ℕ → ℕ → Result (Vec ℕ) ReadError → Type 0
StoreReads old new name limit result = ReadsUnless (fails_next old) (one_call_more old) new name limit result
