-- What is asked of the keys of a table of a rack file, and the first thing that is wrong with them.
use Rattle.std.specs.Prelude.{ℕ, suc, ℤ, pos, negsuc, codes, Bool, true, false, ◌&&◌, ◌==◌, nat_le, List, [], ◌∷◌, ◌++◌, length, map, Option, Some, None, option_and_then, unwrap_or, Result, Ok, Err, if◌then◌else◌}
use Rattle.std.specs.List.{list_any}
use Rattle.std.specs.Fmt.{digits}
use Rattle.std.specs.Str.{bytes_eq}
use Rattle.toml.specs.Data.{Data, Items, no_items, item, Members, no_members, member, get_member, as_array, as_integer, as_str}
use Rattle.rack_file.specs.declared.refusals.RackFault.{RackFault}
use Rattle.rack_file.specs.declared.refusals.RackFault.TheVariants.{Missing, Kind, Limit, Unknown}

-- ---- paths

-- the path of a key in the table at a path; the top table's is empty
abbrev pub under : List ℕ → List ℕ → List ℕ
under path name = if length path == 0 then name else path ++ codes "." ++ name

-- the path of an element of an array, counted from 0
abbrev pub member_path : List ℕ → ℕ → List ℕ
member_path path n = path ++ codes "." ++ digits 10 false n

-- how a table is named itself
abbrev pub table_name : List ℕ → List ℕ
table_name path = if length path == 0 then codes "top" else path

-- ---- judging one thing after another

-- why a rack file is refused, and where
abbrev pub Refused : Type 0
Refused = RackFault × List ℕ

-- the first refusal counts
abbrev pub and_then : {X Y : Type 0} → Result X Refused → (X → Result Y Refused) → Result Y Refused
and_then (Ok x) next = next x
and_then (Err refused) next = Err refused

abbrev pub demand : Bool → RackFault → List ℕ → Result (Unit {0}) Refused
demand holds fault path = if holds then Ok tt else Err (fault, path)

-- ---- the rows of the table of keys

-- what is asked of the value of a key: that it is an integer from 0 on that passes a test, or a text
-- that passes one, which may be left out
pub data Rule : Type 0 where
  Number : (ℕ → Bool) → Rule
  Text : (List ℕ → Bool) → Rule
  OptionalText : (List ℕ → Bool) → Rule

-- a key: its name, and its rule, which may depend on the values of earlier keys
pub record Key : Type 0 where
  pub name : List ℕ
  pub rule : Members → Rule

-- both limits are allowed
abbrev pub within : ℕ → ℕ → ℕ → Bool
within low high n = nat_le low n && nat_le n high

-- a key with an integer from a lowest to a highest one
abbrev pub number_key : List ℕ → ℕ → ℕ → Key
number_key name low high = record { name = name; rule = λ table. Number (within low high) }

-- ---- the value of a key

abbrev pub natural_of : ℤ → Option ℕ
natural_of (pos n) = Some n
natural_of (negsuc n) = None

abbrev pub some_passes : (ℕ → Bool) → Option ℕ → Bool
some_passes test None = false
some_passes test (Some n) = test n

abbrev pub kind_judged : {X : Type 0} → List ℕ → Option X → Result X Refused
kind_judged path None = Err (Kind, path)
kind_judged path (Some x) = Ok x

abbrev pub there_judged : List ℕ → Option Data → Result Data Refused
there_judged path None = Err (Missing, path)
there_judged path (Some datum) = Ok datum

-- it is there, and it is an integer, from 0 on or below
abbrev pub natural_judged : List ℕ → Option Data → Result (Option ℕ) Refused
natural_judged path value =
    and_then (there_judged path value) (λ datum. and_then (kind_judged path (as_integer datum)) (λ n. Ok (natural_of n)))

abbrev pub text_judged : List ℕ → Option Data → Result (List ℕ) Refused
text_judged path value = and_then (there_judged path value) (λ datum. kind_judged path (as_str datum))

abbrev pub optional_judged : (List ℕ → Bool) → List ℕ → Option Data → Result (Unit {0}) Refused
optional_judged test path None = Ok tt
optional_judged test path (Some datum) = and_then (kind_judged path (as_str datum)) (λ text. demand (test text) Limit path)

-- first whether the value is there, then its kind, then its limit
abbrev pub value_judged : Rule → List ℕ → Option Data → Result (Unit {0}) Refused
value_judged (Number test) path value = and_then (natural_judged path value) (λ n. demand (some_passes test n) Limit path)
value_judged (Text test) path value = and_then (text_judged path value) (λ text. demand (test text) Limit path)
value_judged (OptionalText test) path value = optional_judged test path value

abbrev pub key_judged : List ℕ → Members → Key → Result (Unit {0}) Refused
key_judged path table key = value_judged (key.rule table) (under path key.name) (get_member key.name table)

-- the keys of the table at a path, in order
abbrev pub keys_judged : List ℕ → Members → List Key → Result (Unit {0}) Refused
keys_judged path table [] = Ok tt
keys_judged path table (key ∷ keys) = and_then (key_judged path table key) (λ done. keys_judged path table keys)

abbrev pub names_of : List Key → List (List ℕ)
names_of keys = map (λ key. key.name) keys

-- the table has no key but those of these names
abbrev pub has_no_other_key : List (List ℕ) → Members → Bool
has_no_other_key names no_members = true
has_no_other_key names (member name datum rest) = list_any (λ known. bytes_eq name known) names && has_no_other_key names rest

abbrev pub known_judged : List ℕ → Members → List (List ℕ) → Result (Unit {0}) Refused
known_judged path table names = demand (has_no_other_key names table) Unknown (table_name path)

-- ---- what accepted keys hold

-- the integer at a key, where it has one
abbrev pub integer_at : List ℕ → Members → ℕ
integer_at name table = unwrap_or (option_and_then natural_of (option_and_then as_integer (get_member name table))) 0

-- the text at a key, where it has one
abbrev pub text_at : List ℕ → Members → List ℕ
text_at name table = unwrap_or (option_and_then as_str (get_member name table)) []

-- ---- arrays

abbrev pub count : Items → ℕ
count no_items = 0
count (item datum rest) = suc (count rest)

-- it is there, it is an array, and its length is within these limits
abbrev pub array_judged : List ℕ → ℕ → ℕ → Option Data → Result Items Refused
array_judged path low high value =
    and_then (there_judged path value) (λ datum. and_then (kind_judged path (as_array datum)) (λ items.
    and_then (demand (within low high (count items)) Limit path) (λ fits. Ok items)))

abbrev pub optional_array_judged : List ℕ → ℕ → ℕ → Option Data → Result Items Refused
optional_array_judged path low high None = Ok no_items
optional_array_judged path low high (Some datum) = array_judged path low high (Some datum)

-- The elements of an array in order, behind those that are done: each is judged by its path and those
-- before it.
abbrev pub items_judged : {X : Type 0} → (List X → List ℕ → Data → Result X Refused) → List ℕ → List X → Items → Result (List X) Refused
items_judged judge path done no_items = Ok done
items_judged judge path done (item datum rest) =
    and_then (judge done (member_path path (length done)) datum) (λ x. items_judged judge path (done ++ x ∷ []) rest)

-- the elements of an array of the top table, of which there is one and are at most so many, each judged by its path
abbrev pub elements_judged : {X : Type 0} → (List ℕ → Data → Result X Refused) → List ℕ → ℕ → Members → Result (List X) Refused
elements_judged judge name most top =
    and_then (array_judged name 1 most (get_member name top)) (λ items. items_judged (λ done. judge) name [] items)
