-- Walks over the elements of an array.
use Rattle.std.proofs.Common.{◌≡◌, ℕ, zero, suc, ◌+◌, ◌<◌, ◌≤◌, ◌∙◌, List, [], ◌∷◌, ◌++◌, length, drop, get_or, refl, sym, ap, subst, Result, Ok, arith}
use Rattle.toml.specs.Data.{Data, Items, item}
use Rattle.toml.specs.View.{view, items_view}
use Rattle.toml.specs.declared.value.Value.{Value}
use Rattle.toml.proofs.Views.{items_view-drop}
use Rattle.rack_file.specs.Keys.{Refused, and_then, count, member_path, items_judged}
use Rattle.rack_file.specs.Judged.{RefusesAs}
use Rattle.rack_file.specs.declared.refusals.RackRefusal.{RackRefusal}
use Rattle.rack_file.proofs.Judging.{stops-here}

pub count-view : (vs : List Value) → count (items_view vs) ≡ length vs
count-view [] = refl
count-view (v ∷ vs) = ap suc (count-view vs)

one-more : {X : Type 0} (judge : List X → List ℕ → Data → Result X Refused) (path : List ℕ) (done : List X) (d : Data) (rest : Items) (x : X)
    → judge done (member_path path (length done)) d ≡ Ok x → items_judged judge path done (item d rest) ≡ items_judged judge path (done ++ x ∷ []) rest
one-more judge path done d rest x is = ap (λ r. and_then r (λ y. items_judged judge path (done ++ y ∷ []) rest)) is

at-index : (vs : List Value) (i : ℕ) (v : Value) → i < length vs → v ≡ get_or vs i v → items_view (drop i vs) ≡ item (view v) (items_view (drop (i + 1) vs))
at-index vs i v lt is = items_view-drop vs i v lt ∙ ap (λ w. item (view w) (items_view (drop (i + 1) vs))) (sym is)

-- an element that is accepted
pub items-step : {X : Type 0} (judge : List X → List ℕ → Data → Result X Refused) (path : List ℕ) (done : List X) (vs : List Value) (i : ℕ) (v : Value) (x : X)
    → i < length vs → v ≡ get_or vs i v → judge done (member_path path (length done)) (view v) ≡ Ok x
    → items_judged judge path (done ++ x ∷ []) (items_view (drop (i + 1) vs)) ≡ items_judged judge path done (items_view (drop i vs))
items-step judge path done vs i v x lt is accepted =
    sym (ap (items_judged judge path done) (at-index vs i v lt is) ∙ one-more judge path done (view v) (items_view (drop (i + 1) vs)) x accepted)

-- an element that is refused
pub items-stop : {X : Type 0} (judge : List X → List ℕ → Data → Result X Refused) (path : List ℕ) (done : List X) (vs : List Value) (i : ℕ) (v : Value) (e : RackRefusal) (whole : Result (List X) Refused)
    → i < length vs → v ≡ get_or vs i v → items_judged judge path done (items_view (drop i vs)) ≡ whole
    → RefusesAs e (judge done (member_path path (length done)) (view v)) → RefusesAs e whole
items-stop {X} judge path done vs i v e whole lt is so_far stops =
    let P : Result (List X) Refused → Type 0 = λ j. RefusesAs e j in
    subst P (sym (ap (items_judged judge path done) (at-index vs i v lt is)) ∙ so_far)
    (stops-here e (judge done (member_path path (length done)) (view v)) (λ x. items_judged judge path (done ++ x ∷ []) (items_view (drop (i + 1) vs))) stops)

nothing-left : (vs : List Value) (i : ℕ) → length vs ≤ i → drop i vs ≡ []
nothing-left [] zero le = refl
nothing-left [] (suc i) le = refl
nothing-left (v ∷ vs) zero le = absurd (omega arith)
nothing-left (v ∷ vs) (suc i) le = nothing-left vs i (omega arith)

-- the end of the array
pub items-end : {X : Type 0} (judge : List X → List ℕ → Data → Result X Refused) (path : List ℕ) (done : List X) (vs : List Value) (i : ℕ) (whole : Result (List X) Refused)
    → length vs ≤ i → items_judged judge path done (items_view (drop i vs)) ≡ whole → whole ≡ Ok done
items-end judge path done vs i whole le so_far = sym so_far ∙ ap (λ ws. items_judged judge path done (items_view ws)) (nothing-left vs i le)
