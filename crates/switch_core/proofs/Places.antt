-- Pages lie in memory blades of the rack.
use Rattle.std.proofs.Common.{◌≡◌, ℕ, ◌+◌, ◌<◌, Bool, cond, Option, Some, None, List, [], ◌∷◌, length, sym, subst, inl, inr, arith}
use Rattle.std.specs.Prelude.{nat_lt}
use Rattle.std.specs.List.{AllByRecursion}
use Rattle.std.specs.Option.{option_map, is_some, IfSome}
use Rattle.std.proofs.lemmas.Bool.{cases_Bool}
use Rattle.mind_base.specs.Page.{PageView}
use Rattle.mind_base.specs.Home.{home_of, home_from, number_in_homes}
use Rattle.mind_base.specs.declared.plans.MemoryPlan.{MemoryPlan}
use Rattle.mind_base.specs.Range.{in_range}
use Rattle.range_translate.specs.Place.{smaller_of, smallest_of, place_or_home, physical_place}
use Rattle.range_translate.specs.declared.outliers.Outlier.{Outlier}

-- a home is in one of the memory blades
numbered : (blade limit : ℕ) (o : Option ℕ) → blade < limit → IfSome (option_map {T = ℕ} {U = ℕ × ℕ} (λ n. (blade, n)) o) (λ place. place.0 < limit)
numbered blade limit None lt = tt
numbered blade limit (Some n) lt = lt

home-within : (blade limit : ℕ) (memories : List MemoryPlan) (page : PageView) → limit ≡ blade + length memories → IfSome (home_from blade memories page) (λ place. place.0 < limit)
home-within blade limit [] page e = tt
home-within blade limit (m ∷ memories) page e =
    let chosen = λ (b : Bool). IfSome (cond b (option_map (λ n. (blade, n)) (number_in_homes m.homes page)) (home_from (blade + 1) memories page)) (λ place. place.0 < limit) in
    elim (cases_Bool (is_some (number_in_homes m.homes page))) [
      | inl t ↦ subst chosen (sym t) (numbered blade limit (number_in_homes m.homes page) (omega arith))
      | inr f ↦ subst chosen (sym f) (home-within (blade + 1) limit memories page (omega arith))
    ]

-- the smallest of some outliers is one of them
smaller-keeps : (P : Outlier → Type 0) (o : Outlier) (q : Option Outlier) → P o → IfSome q P → IfSome (smaller_of o q) P
smaller-keeps P o None p h = p
smaller-keeps P o (Some x) p h =
    let chosen = λ (b : Bool). IfSome (cond b (Some x) (Some o)) P in
    elim (cases_Bool (nat_lt x.range.log o.range.log)) [
      | inl t ↦ subst chosen (sym t) h
      | inr f ↦ subst chosen (sym f) p
    ]

smallest-keeps : (P : Outlier → Type 0) (os : List Outlier) (page : PageView) → AllByRecursion P os → IfSome (smallest_of os page) P
smallest-keeps P [] page h = tt
smallest-keeps P (o ∷ os) page h =
    let chosen = λ (b : Bool). IfSome (cond b (smaller_of o (smallest_of os page)) (smallest_of os page)) P in
    elim (cases_Bool (in_range o.range page)) [
      | inl t ↦ subst chosen (sym t) (smaller-keeps P o (smallest_of os page) h.0 (smallest-keeps P os page h.1))
      | inr f ↦ subst chosen (sym f) (smallest-keeps P os page h.1)
    ]

placed : (limit : ℕ) (o : Option Outlier) (page : PageView) (home : Option (ℕ × ℕ)) → IfSome o (λ x. x.memory < limit) → IfSome home (λ place. place.0 < limit) → IfSome (option_map (place_or_home o page) home) (λ place. place.0 < limit)
placed limit o page None h k = tt
placed limit None page (Some home) h k = k
placed limit (Some o) page (Some home) h k = h

pub place-within : (memories : List MemoryPlan) (outliers : List Outlier) (page : PageView) → AllByRecursion (λ o. o.memory < length memories) outliers → IfSome (physical_place memories outliers page) (λ place. place.0 < length memories)
place-within memories outliers page h =
    placed (length memories) (smallest_of outliers page) page (home_of memories page)
    (smallest-keeps (λ o. o.memory < length memories) outliers page h)
    (home-within 0 (length memories) memories page (omega arith))
