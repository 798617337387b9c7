-- The first entry of a list that passes a test.
use Rattle.std.specs.Prelude.{◌≡◌, ℕ, ◌<◌, Bool, true, false, List, [], ◌∷◌, Some, IfSome, slice_get, if◌then◌else◌}
use Rattle.region_directory.specs.declared.entries.Entry.{Entry}

-- the list in which the first entry that passes is changed, if there is one
abbrev pub first_changed : (Entry → Bool) → (Entry → Entry) → List Entry → List Entry
first_changed test change [] = []
first_changed test change (entry ∷ entries) =
    if test entry then change entry ∷ entries else entry ∷ first_changed test change entries

-- the entry has this number, passes the test, and no earlier one does
pub record IsFirst (test : Entry → Bool) (entries : List Entry) (i : ℕ) (entry : Entry) : Type 0 where
  pub stands : slice_get entries i ≡ Some entry
  pub passes : test entry ≡ true
  pub before : (k : ℕ) → k < i → IfSome (slice_get entries k) (λ earlier. test earlier ≡ false)
