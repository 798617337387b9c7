-- What is known of keys, tables and arrays that are accepted.
use Rattle.std.proofs.Common.{◌≡◌, ℕ, ◌+◌, Bool, true, false, List, [], ◌∷◌, ◌++◌, length, refl, ap, subst, Option, Some, None, Result, Ok, Err, ℤ, arith, unwrap_or, option_and_then}
use Rattle.std.specs.List.{AllByRecursion}
use Rattle.std.proofs.lemmas.Grind.{common_steps}
use Rattle.mind_base.specs.Fit.{Within}
use Rattle.toml.specs.Data.{Data, Items, no_items, item, Members, as_integer, as_array}
use Rattle.rack_file.specs.Keys.{Refused, and_then, demand, Key, Number, within, some_passes, natural_of, kind_judged, value_judged, key_judged, keys_judged, integer_at, count, member_path, items_judged, array_judged}
use Rattle.rack_file.specs.declared.refusals.RackFault.{RackFault}

-- two things that were accepted one after the other
pub both-ok : {X Y : Type 0} (judged : Result X Refused) (next : X → Result Y Refused) (y : Y) → and_then judged next ≡ Ok y → (x : X) × (judged ≡ Ok x) × (next x ≡ Ok y)
both-ok (Ok x) next y e = (x, refl, e)
both-ok (Err refused) next y e = absurd (cc)

pub demand-ok : (b : Bool) (fault : RackFault) (path : List ℕ) (u : Unit {0}) → demand b fault path ≡ Ok u → b ≡ true
demand-ok true fault path u e = refl
demand-ok false fault path u e = absurd (cc)

pub within-parts : (low high n : ℕ) → within low high n ≡ true → Within low high n
within-parts low high n e = (grind (arith, common_steps, e), grind (arith, common_steps, e))

-- ---- keys

passes-value : (test : ℕ → Bool) (n : Option ℕ) → some_passes test n ≡ true → test (unwrap_or n 0) ≡ true
passes-value test None e = absurd (cc)
passes-value test (Some n) e = e

integer-ok : (test : ℕ → Bool) (fault : RackFault) (path : List ℕ) (z : Option ℤ) (u : Unit {0})
    → and_then (and_then (kind_judged path z) (λ n. Ok (natural_of n))) (λ n. demand (some_passes test n) fault path) ≡ Ok u → test (unwrap_or (option_and_then natural_of z) 0) ≡ true
integer-ok test fault path None u e = absurd (cc)
integer-ok test fault path (Some z) u e = passes-value test (natural_of z) (demand-ok (some_passes test (natural_of z)) fault path u e)

pub number-ok : (test : ℕ → Bool) (path : List ℕ) (value : Option Data) (u : Unit {0}) → value_judged (Number test) path value ≡ Ok u
    → test (unwrap_or (option_and_then natural_of (option_and_then as_integer value)) 0) ≡ true
number-ok test path None u e = absurd (cc)
number-ok test path (Some d) u e = integer-ok test _ path (as_integer d) u e

-- the first of some keys, and the others
pub first-ok : (path : List ℕ) (table : Members) (key : Key) (keys : List Key) (u : Unit {0}) → keys_judged path table (key ∷ keys) ≡ Ok u → (key_judged path table key ≡ Ok tt) × (keys_judged path table keys ≡ Ok u)
first-ok path table key keys u e = let (x, here, more) = both-ok (key_judged path table key) (λ done. keys_judged path table keys) u e in (here, more)

-- a key with an integer that passes a test
pub number-first : (path : List ℕ) (table : Members) (name : List ℕ) (test : Members → ℕ → Bool) (keys : List Key) (u : Unit {0})
    → keys_judged path table (record { name = name; rule = λ t. Number (test t) } ∷ keys) ≡ Ok u → (test table (integer_at name table) ≡ true) × (keys_judged path table keys ≡ Ok u)
number-first path table name test keys u e =
    let (here, more) = first-ok path table (record { name = name; rule = λ t. Number (test t) }) keys u e in
    (number-ok (test table) _ _ tt here, more)

-- ---- arrays

pub all-push : {X : Type 0} (P : X → Type 0) (xs : List X) (x : X) → AllByRecursion P xs → P x → AllByRecursion P (xs ++ x ∷ [])
all-push P [] x all here = (here, tt)
all-push P (y ∷ ys) x all here = (all.0, all-push P ys x all.1 here)

-- what each accepted element keeps is so of all of them
pub items-keep : {X : Type 0} (judge : List X → List ℕ → Data → Result X Refused) (path : List ℕ) (Q : List X → Type 0)
    → ((done : List X) (place : List ℕ) (d : Data) (x : X) → Q done → judge done place d ≡ Ok x → Q (done ++ x ∷ []))
    → (items : Items) (done xs : List X) → Q done → items_judged judge path done items ≡ Ok xs → Q xs
items-keep {X} judge path Q step no_items done xs so_far e = subst Q (cc) so_far
items-keep {X} judge path Q step (item d ds) done xs so_far e =
    let (x, here, more) = both-ok (judge done (member_path path (length done)) d) (λ x. items_judged judge path (done ++ x ∷ []) ds) xs e in
    items-keep judge path Q step ds (done ++ x ∷ []) xs (step done _ d x so_far here) more

length-push : {X : Type 0} (xs : List X) (x : X) → length (xs ++ x ∷ []) ≡ length xs + 1
length-push [] x = refl
length-push (y ∷ ys) x = grind (arith, common_steps, length-push ys x)

pub items-count : {X : Type 0} (judge : List X → List ℕ → Data → Result X Refused) (path : List ℕ) (items : Items) (done xs : List X)
    → items_judged judge path done items ≡ Ok xs → length xs ≡ length done + count items
items-count {X} judge path no_items done xs e = let same : done ≡ xs = cc in omega (arith, ap length same)
items-count {X} judge path (item d ds) done xs e =
    let (x, here, more) = both-ok (judge done (member_path path (length done)) d) (λ x. items_judged judge path (done ++ x ∷ []) ds) xs e in
    omega (arith, items-count judge path ds (done ++ x ∷ []) xs more, length-push done x)

array-in : (path : List ℕ) (low high : ℕ) (array : Option Items) (items : Items) (fault : RackFault)
    → and_then (kind_judged path array) (λ is. and_then (demand (within low high (count is)) fault path) (λ fits. Ok is)) ≡ Ok items → within low high (count items) ≡ true
array-in path low high None items fault e = absurd (cc)
array-in path low high (Some is) items fault e =
    let (u, fits, more) = both-ok (demand (within low high (count is)) fault path) (λ fits. Ok is) items e in
    let same : is ≡ items = cc in
    subst (λ i. within low high (count i) ≡ true) same (demand-ok _ fault path u fits)

pub array-ok : (path : List ℕ) (low high : ℕ) (value : Option Data) (items : Items) → array_judged path low high value ≡ Ok items → Within low high (count items)
array-ok path low high None items e = absurd (cc)
array-ok path low high (Some d) items e = within-parts low high _ (array-in path low high (as_array d) items _ e)
