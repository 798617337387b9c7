-- How what the code answers meets how a rack file is judged.
use Rattle.std.specs.Prelude.{◌≡◌, ℕ, List, [], Option, Some, None, String, string_bytes, Result, Ok, Err}
use Rattle.std.specs.BTreeMap.{BTreeMap}
use Rattle.toml.specs.Data.{Members}
use Rattle.toml.specs.View.{table_view}
use Rattle.toml.specs.declared.value.Value.{Value}
use Rattle.rack_file.specs.Keys.{Refused}
use Rattle.rack_file.specs.declared.refusals.RackFault.TheVariants.{Toml}
use Rattle.rack_file.specs.declared.refusals.RackRefusal.{RackRefusal}
use Rattle.rack_file.specs.declared.refusals.RackRefusal.TheVariants as refusal
use Rattle.std.specs.declared.alloc.Global.{Global}

-- the code says this, unless memory ran out
abbrev pub Says : RackRefusal → Refused → Type 0
Says (refusal.Refused what path) refused = refused ≡ (what, path)
Says refusal.NoMemory refused = Unit {0}

-- the code refuses as is judged, unless memory ran out
abbrev pub RefusesAs : {Y : Type 0} → RackRefusal → Result Y Refused → Type 0
RefusesAs (refusal.Refused what path) judged = judged ≡ Err (what, path)
RefusesAs refusal.NoMemory judged = Unit {0}

-- the code answers as is judged, unless memory ran out
abbrev pub GivesJudged : {X Y : Type 0} → (X → Y) → Result X RackRefusal → Result Y Refused → Type 0
GivesJudged view (Ok x) judged = judged ≡ Ok (view x)
GivesJudged view (Err refused) judged = RefusesAs refused judged

-- the code gives this text, unless memory ran out
abbrev pub GivesText : Result (String Global) RackRefusal → List ℕ → Type 0
GivesText (Ok text) wanted = string_bytes text ≡ wanted
GivesText (Err (refusal.Refused what path)) wanted = ⊥
GivesText (Err refusal.NoMemory) wanted = Unit {0}

-- the code finds nothing wrong and reads this value, or refuses as is judged, unless memory ran out
abbrev pub ReadsAs : {X Y : Type 0} → (X → Y) → Result X RackRefusal → Result (Unit {0}) Refused → Y → Type 0
ReadsAs view (Ok x) judged value = (judged ≡ Ok tt) × (view x ≡ value)
ReadsAs view (Err refused) judged value = RefusesAs refused judged

-- the document that bytes spell is read, and they are refused only where they spell none
abbrev pub GivesDocument : Result (BTreeMap (String Global) Value) RackRefusal → Option Members → Type 0
GivesDocument (Ok document) spelled = spelled ≡ Some (table_view document)
GivesDocument (Err (refusal.Refused what path)) spelled = (spelled ≡ None) × (what ≡ Toml) × (path ≡ [])
GivesDocument (Err refusal.NoMemory) spelled = Unit {0}
