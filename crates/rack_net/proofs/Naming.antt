-- Names and places of links.
use Rattle.std.proofs.Common.{◌≡◌, ℕ, zero, suc, ◌+◌, ◌*◌, ◌%◌, ◌<◌, cond, ltb, true, false, refl, sym, ap, subst, ◌∙◌, arith, inl, inr, ◌⊎◌, eq-eqb}
use Rattle.std.proofs.lemmas.Bool.{cases_eq, ne_eqb}
use Rattle.std.proofs.lemmas.Bool.Decides.{nat_tests}
use Rattle.mind_base.specs.declared.links.LinkKind.{LinkKind}
use Rattle.mind_base.specs.declared.links.LinkKind.TheVariants.{Up, Down, To, From}
use Rattle.mind_base.specs.declared.links.LinkName.{LinkName}
use Rattle.rack_net.specs.Net.{links_of_kind, first_place, link_place, kind_number, same_link}

below : (blades memories number : ℕ) (kind : LinkKind) → number < links_of_kind blades memories kind → first_place blades kind + 2 * number < 2 * (blades + memories)
below blades memories number Up h = omega arith
below blades memories number Down h = omega arith
below blades memories number To h = omega arith
below blades memories number From h = omega arith

-- a link of the rack stands among them
pub place-below : (blades memories : ℕ) (name : LinkName) → name.number < links_of_kind blades memories name.kind → link_place blades name < 2 * (blades + memories)
place-below blades memories name h = below blades memories name.number name.kind h

abbrev kind_with : ℕ → LinkKind
kind_with zero = Up
kind_with (suc zero) = Down
kind_with (suc (suc zero)) = To
kind_with (suc (suc (suc n))) = From

kind_with-number : (kind : LinkKind) → kind_with (kind_number kind) ≡ kind
kind_with-number Up = refl
kind_with-number Down = refl
kind_with-number To = refl
kind_with-number From = refl

one_kind : (a b : LinkKind) → kind_number a ≡ kind_number b → a ≡ b
one_kind a b e = sym (kind_with-number a) ∙ ap kind_with e ∙ kind_with-number b

-- the number of the kind of the link that stands at a place
abbrev number_at : ℕ → ℕ → ℕ
number_at blades place = cond (ltb place (2 * blades)) (place % 2) (2 + place % 2)

number-there : (blades memories number : ℕ) (kind : LinkKind) → number < links_of_kind blades memories kind → kind_number kind ≡ number_at blades (first_place blades kind + 2 * number)
number-there blades memories number Up h = grind (arith, nat_tests)
number-there blades memories number Down h = grind (arith, nat_tests)
number-there blades memories number To h = grind (arith, nat_tests)
number-there blades memories number From h = grind (arith, nat_tests)

one_number : (first m n : ℕ) → first + 2 * m ≡ first + 2 * n → m ≡ n
one_number first m n e = omega arith

-- links of the rack that stand at one place have one name
pub one_name : (blades memories : ℕ) (a b : LinkName) → a.number < links_of_kind blades memories a.kind → b.number < links_of_kind blades memories b.kind → link_place blades a ≡ link_place blades b → a ≡ b
one_name blades memories a b p q e =
    let kind : a.kind ≡ b.kind = one_kind a.kind b.kind (number-there blades memories a.number a.kind p ∙ ap (number_at blades) e ∙ sym (number-there blades memories b.number b.kind q)) in
    let number = one_number _ a.number b.number (subst (λ (k : LinkKind). link_place blades a ≡ first_place blades k + 2 * b.number) (sym kind) e) in
    λ i. record { kind = kind i; number = number i }

-- the test decides whether two names are one
pub same-or-not : (a b : LinkName) → ((same_link a b ≡ true) × (a ≡ b)) ⊎ ((same_link a b ≡ false) × (a ≡ b → ⊥))
same-or-not a b = elim (cases_eq (kind_number a.kind) (kind_number b.kind)) [
  | inl kind ↦ elim (cases_eq a.number b.number) [
    | inl number ↦ inl (rw (eq-eqb _ _ kind, eq-eqb _ _ number) refl, (λ i. record { kind = one_kind a.kind b.kind kind i; number = number i }))
    | inr other ↦ inr (rw (eq-eqb _ _ kind, ne_eqb _ _ other) refl, (λ e. other (ap (λ (n : LinkName). n.number) e)))
  ]
  | inr other ↦ inr (rw (ne_eqb _ _ other) refl, (λ e. other (ap (λ (n : LinkName). kind_number n.kind) e)))
]
