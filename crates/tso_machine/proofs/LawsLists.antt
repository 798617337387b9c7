-- The elements of lists.
use Rattle.std.proofs.Common.{◌≡◌, ◌<◌, ◌∙◌, ap, refl, arith, List, [], ◌∷◌, Option, Some, None, inl, inr, ◌⊎◌}
use Rattle.std.specs.List.{Contains, cons_option, filter_map, flat_map}
use Rattle.std.specs.Option.{option_map, option_to_list}
use Rattle.std.proofs.lemmas.List.Elements.{Contains-append_cases, Contains-append_left, Contains-append_right, Contains-push, Contains-push_cases}

-- an element of a list is its head or an element of its tail
pub contains-nil : {X : Type 0} (x : X) → Contains [] x → ⊥
contains-nil x has = let none : has.0 < 0 = has.1 in omega arith

pub contains-cons : {X : Type 0} (y : X) (ys : List X) (x : X) → Contains (y ∷ ys) x → (y ≡ x) ⊎ Contains ys x
contains-cons y ys x has = by_part (Contains-append_cases (y ∷ []) ys x has) where
  by_head : Contains [] x ⊎ (y ≡ x) → (y ≡ x) ⊎ Contains ys x
  by_head (inl none) = absurd (contains-nil x none)
  by_head (inr e) = inl e

  by_part : Contains (y ∷ []) x ⊎ Contains ys x → (y ≡ x) ⊎ Contains ys x
  by_part (inl head) = by_head (Contains-push_cases [] y x head)
  by_part (inr tail) = inr tail

contains-first : {X : Type 0} (x : X) (xs : List X) → Contains (x ∷ xs) x
contains-first x xs = Contains-append_left (x ∷ []) xs x (Contains-push [] x)

-- an element of a `flat_map` is one of what some element gives
pub contains-flat_map : {X Y : Type 0} (f : X → List Y) (xs : List X) (y : Y) → Contains (flat_map f xs) y → (x : X) × Contains xs x × Contains (f x) y
contains-flat_map f [] y has = absurd (contains-nil y has)
contains-flat_map {X = X} f (x ∷ xs) y has = by_part (Contains-append_cases (f x) (flat_map f xs) y has) (contains-flat_map f xs y) where
  by_part : Contains (f x) y ⊎ Contains (flat_map f xs) y → (Contains (flat_map f xs) y → (z : X) × Contains xs z × Contains (f z) y)
      → (z : X) × Contains (x ∷ xs) z × Contains (f z) y
  by_part (inl here) later = (x, contains-first x xs, here)
  by_part (inr behind) later = let z = later behind in (z.0, Contains-append_right (x ∷ []) xs z.0 z.1, z.2)

-- likewise of a `filter_map`
pub contains-filter_map : {X Y : Type 0} (f : X → Option Y) (xs : List X) (y : Y) → Contains (filter_map f xs) y → (x : X) × Contains xs x × (f x ≡ Some y)
contains-filter_map f [] y has = absurd (contains-nil y has)
contains-filter_map {X = X} {Y = Y} f (x ∷ xs) y has = by_given (f x) refl (contains-filter_map f xs y) has where
  behind : (z : X) × Contains xs z × (f z ≡ Some y) → (z : X) × Contains (x ∷ xs) z × (f z ≡ Some y)
  behind z = (z.0, Contains-append_right (x ∷ []) xs z.0 z.1, z.2)

  by_part : (w : Y) → f x ≡ Some w → (Contains (filter_map f xs) y → (z : X) × Contains xs z × (f z ≡ Some y))
      → (w ≡ y) ⊎ Contains (filter_map f xs) y → (z : X) × Contains (x ∷ xs) z × (f z ≡ Some y)
  by_part w is later (inl same) = (x, contains-first x xs, is ∙ ap Some same)
  by_part w is later (inr h) = behind (later h)

  by_given : (o : Option Y) → f x ≡ o → (Contains (filter_map f xs) y → (z : X) × Contains xs z × (f z ≡ Some y))
      → Contains (cons_option o (filter_map f xs)) y → (z : X) × Contains (x ∷ xs) z × (f z ≡ Some y)
  by_given None is later h = behind (later h)
  by_given (Some w) is later h = by_part w is later (contains-cons w (filter_map f xs) y h)

-- what is picked of the one that may be made of another: that other, or nothing
pub made-picked : {X Y : Type 0} (pick : Y → Option X) (make : X → Y) → ((x : X) → pick (make x) ≡ Some x) → (o : Option X)
    → filter_map pick (option_to_list (option_map make o)) ≡ option_to_list o
made-picked pick make is None = refl
made-picked pick make is (Some x) = rw (is x) refl

pub made-passed : {X Y Z : Type 0} (pick : Y → Option Z) (make : X → Y) → ((x : X) → pick (make x) ≡ None) → (o : Option X)
    → filter_map pick (option_to_list (option_map make o)) ≡ []
made-passed pick make is None = refl
made-passed pick make is (Some x) = rw (is x) refl
