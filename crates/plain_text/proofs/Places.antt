-- The first place at which a test passes, or the length of the list.
use Rattle.std.proofs.Common.{◌≡◌, ℕ, Bool, not, cond, ltb, List, length, Option, Some, None, inl, inr, refl, arith}
use Rattle.std.specs.Option.{unwrap_or}
use Rattle.std.specs.List.{position_or_len}
use Rattle.std.proofs.lemmas.Bool.{cases_lt, lt-ltb, le-ltb}
use Rattle.std.proofs.lemmas.List.Sums.{prefix_len-le-length}

pub place_or_end : {X : Type 0} (test : X → Bool) (xs : List X) (found : Option ℕ) → found ≡ cond (ltb (position_or_len test xs) (length xs)) (Some (position_or_len test xs)) None
    → unwrap_or found (length xs) ≡ position_or_len test xs
place_or_end test xs found is =
    elim (cases_lt (position_or_len test xs) (length xs)) [
      | inl lt ↦ rw (is, lt-ltb _ _ lt) refl
      | inr le ↦ rw (is, le-ltb _ _ le) (omega (arith, prefix_len-le-length (λ x. not (test x)) xs))
    ]
