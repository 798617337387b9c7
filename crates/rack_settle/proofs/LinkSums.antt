-- A number summed over all links of a net, when one link changes.
use Rattle.std.proofs.Common.{◌≡◌, refl, ap, ap₂, ◌∙◌, ℕ, zero, suc, ◌+◌, ◌<◌, ◌≤◌, false, ◌==◌, ◌&&◌, add-le-add, arith, eq-eqb}
use Rattle.std.specs.Prelude.{if◌then◌else◌}
use Rattle.std.proofs.lemmas.Bool.Decides.{nat_tests}
use Rattle.mind_base.specs.declared.links.LinkKind.{LinkKind}
use Rattle.mind_base.specs.declared.links.LinkKind.TheVariants.{Up, Down, To, From}
use Rattle.mind_base.specs.declared.links.LinkName.{LinkName}
use Rattle.rack_net.specs.Net.{NetLink, NetView, ChangesOnly, IsNet, links_of, links_of_kind, kind_number, same_link}
use Rattle.protect_table.proofs.Callers.{sum_below-same}
use Rattle.rack_core.proofs.Callers.{below-changed}
use Rattle.rack_settle.specs.Turns.{link_turns, most_link_turns, net_turns, most_net_turns}
use Rattle.mind_base.specs.Cover.{sum_below}
use Rattle.rack_settle.specs.Weight.{over_links}
use Rattle.rack_settle.proofs.LinkTurns.{turns-small}

-- ---- sums

below-le : (n : ℕ) (f g : ℕ → ℕ) → ((i : ℕ) → f i ≤ g i) → sum_below f n ≤ sum_below g n
unfolding sum_below
below-le zero f g le = omega arith
below-le (suc n) f g le =
    let rest : sum_below f n ≤ sum_below g n = below-le n f g le in
    let last : f n ≤ g n = le n in
    omega arith

-- ---- links

abbrev pub of_link : (NetLink → ℕ) → NetView → LinkKind → ℕ → ℕ
of_link number_of net kind i = number_of (links_of net (record { kind = kind; number = i }))

-- the sum over two links of each number
abbrev pub of_two : (NetLink → ℕ) → NetView → LinkKind → LinkKind → ℕ → ℕ
of_two number_of net a b i = of_link number_of net a i + of_link number_of net b i

other_link : (number_of : NetLink → ℕ) (name : LinkName) (old new : NetView) → ChangesOnly name old new → (kind : LinkKind) (i : ℕ)
    → same_link name (record { kind = kind; number = i }) ≡ false → of_link number_of new kind i ≡ of_link number_of old kind i
other_link number_of name old new only kind i e =
    ap (λ f. number_of (f (record { kind = kind; number = i }))) only.others
    ∙ ap (λ b. number_of (if b then links_of new name else links_of old (record { kind = kind; number = i }))) e

-- the links of another kind
other_kind : (number_of : NetLink → ℕ) (name : LinkName) (old new : NetView) → ChangesOnly name old new → (kind : LinkKind)
    → (kind_number name.kind == kind_number kind) ≡ false → (i : ℕ) → of_link number_of new kind i ≡ of_link number_of old kind i
other_kind number_of name old new only kind e i = other_link number_of name old new only kind i (ap (λ b. b && name.number == i) e)

-- the links of this kind that have another number
other_number : (number_of : NetLink → ℕ) (kind : LinkKind) (c : ℕ) (old new : NetView) → ChangesOnly (record { kind = kind; number = c }) old new
    → (i : ℕ) → (i == c) ≡ false → of_link number_of new kind i ≡ of_link number_of old kind i
other_number number_of kind c old new only i e =
    other_link number_of (record { kind = kind; number = c }) old new only kind i
    (ap (λ b. b && c == i) (eq-eqb (kind_number kind) (kind_number kind) refl) ∙ (let apart : (c == i) ≡ false = grind (arith, nat_tests) in apart))

-- the sum over links of two kinds, when none of them changed, and when one of the first or of the second kind did
two-same : (number_of : NetLink → ℕ) (n : ℕ) (a b : LinkKind) (old new : NetView)
    → ((i : ℕ) → of_link number_of new a i ≡ of_link number_of old a i) → ((i : ℕ) → of_link number_of new b i ≡ of_link number_of old b i)
    → sum_below (of_two number_of new a b) n ≡ sum_below (of_two number_of old a b) n
two-same number_of n a b old new first second =
    sum_below-same (of_two number_of new a b) (of_two number_of old a b) n (λ i lt. ap₂ (λ x y. x + y) (first i) (second i))

first-changed : (number_of : NetLink → ℕ) (n : ℕ) (a b : LinkKind) (c : ℕ) (old new : NetView) (v w : ℕ) → ChangesOnly (record { kind = a; number = c }) old new
    → ((i : ℕ) → of_link number_of new b i ≡ of_link number_of old b i) → of_link number_of new a c + v ≤ of_link number_of old a c + w → (n ≤ c → v ≤ w)
    → sum_below (of_two number_of new a b) n + v ≤ sum_below (of_two number_of old a b) n + w
first-changed number_of n a b c old new v w only second here away =
    below-changed n c v w (of_two number_of new a b) (of_two number_of old a b)
    (λ i e. ap₂ (λ x y. x + y) (other_number number_of a c old new only i e) (second i)) (omega (arith, here, second c)) away

second-changed : (number_of : NetLink → ℕ) (n : ℕ) (a b : LinkKind) (c : ℕ) (old new : NetView) (v w : ℕ) → ChangesOnly (record { kind = b; number = c }) old new
    → ((i : ℕ) → of_link number_of new a i ≡ of_link number_of old a i) → of_link number_of new b c + v ≤ of_link number_of old b c + w → (n ≤ c → v ≤ w)
    → sum_below (of_two number_of new a b) n + v ≤ sum_below (of_two number_of old a b) n + w
second-changed number_of n a b c old new v w only first here away =
    below-changed n c v w (of_two number_of new a b) (of_two number_of old a b)
    (λ i e. ap₂ (λ x y. x + y) (first i) (other_number number_of b c old new only i e)) (omega (arith, here, first c)) away

-- there are as many links as before
over-new : (number_of : NetLink → ℕ) (name : LinkName) (old new : NetView) → ChangesOnly name old new
    → over_links number_of new ≡ sum_below (of_two number_of new Up Down) old.blades + sum_below (of_two number_of new To From) old.memories
over-new number_of name old new only = ap₂ (λ b m. sum_below (of_two number_of new Up Down) b + sum_below (of_two number_of new To From) m) only.blades only.memories

-- a link with a compute blade changes, or one with a memory blade
of-blades : (number_of : NetLink → ℕ) (name : LinkName) (old new : NetView) (v w : ℕ) → ChangesOnly name old new
    → sum_below (of_two number_of new Up Down) old.blades + v ≤ sum_below (of_two number_of old Up Down) old.blades + w
    → sum_below (of_two number_of new To From) old.memories ≡ sum_below (of_two number_of old To From) old.memories → over_links number_of new + v ≤ over_links number_of old + w
of-blades number_of name old new v w only here same = omega (arith, over-new number_of name old new only, here, same)

of-memories : (number_of : NetLink → ℕ) (name : LinkName) (old new : NetView) (v w : ℕ) → ChangesOnly name old new
    → sum_below (of_two number_of new Up Down) old.blades ≡ sum_below (of_two number_of old Up Down) old.blades
    → sum_below (of_two number_of new To From) old.memories + v ≤ sum_below (of_two number_of old To From) old.memories + w → over_links number_of new + v ≤ over_links number_of old + w
of-memories number_of name old new v w only same here = omega (arith, over-new number_of name old new only, here, same)

-- One link changes: the sum over all changes by as much, if it is one of them.
pub changed_on : (number_of : NetLink → ℕ) (kind : LinkKind) (c : ℕ) (old new : NetView) (v w : ℕ) → ChangesOnly (record { kind = kind; number = c }) old new
    → of_link number_of new kind c + v ≤ of_link number_of old kind c + w → (links_of_kind old.blades old.memories kind ≤ c → v ≤ w)
    → over_links number_of new + v ≤ over_links number_of old + w
changed_on number_of Up c old new v w only here away =
    let name : LinkName = record { kind = Up; number = c } in
    let other = other_kind number_of name old new only in
    of-blades number_of name old new v w only (first-changed number_of old.blades Up Down c old new v w only (other Down refl) here away) (two-same number_of old.memories To From old new (other To refl) (other From refl))
changed_on number_of Down c old new v w only here away =
    let name : LinkName = record { kind = Down; number = c } in
    let other = other_kind number_of name old new only in
    of-blades number_of name old new v w only (second-changed number_of old.blades Up Down c old new v w only (other Up refl) here away) (two-same number_of old.memories To From old new (other To refl) (other From refl))
changed_on number_of To c old new v w only here away =
    let name : LinkName = record { kind = To; number = c } in
    let other = other_kind number_of name old new only in
    of-memories number_of name old new v w only (two-same number_of old.blades Up Down old new (other Up refl) (other Down refl)) (first-changed number_of old.memories To From c old new v w only (other From refl) here away)
changed_on number_of From c old new v w only here away =
    let name : LinkName = record { kind = From; number = c } in
    let other = other_kind number_of name old new only in
    of-memories number_of name old new v w only (two-same number_of old.blades Up Down old new (other Up refl) (other Down refl)) (second-changed number_of old.memories To From c old new v w only (other To refl) here away)

-- ---- how much it can be

pub net_turns-small : (net : NetView) → IsNet net → net_turns net < most_net_turns net
net_turns-small net is =
    let small : (name : LinkName) → link_turns (links_of net name) ≤ most_link_turns = λ name. omega (arith, turns-small (links_of net name) (is.sound name)) in
    let blades : sum_below (of_two link_turns net Up Down) net.blades ≤ sum_below (of_two (λ link. most_link_turns) net Up Down) net.blades =
    below-le net.blades (of_two link_turns net Up Down) (of_two (λ link. most_link_turns) net Up Down)
    (λ i. add-le-add (small (record { kind = Up; number = i })) (small (record { kind = Down; number = i }))) in
    let memories : sum_below (of_two link_turns net To From) net.memories ≤ sum_below (of_two (λ link. most_link_turns) net To From) net.memories =
    below-le net.memories (of_two link_turns net To From) (of_two (λ link. most_link_turns) net To From)
    (λ i. add-le-add (small (record { kind = To; number = i })) (small (record { kind = From; number = i }))) in
    omega (arith, blades, memories)

pub most-same : (old new : NetView) → new.blades ≡ old.blades → new.memories ≡ old.memories → most_net_turns new ≡ most_net_turns old
most-same old new blades memories = ap₂ (λ b m. sum_below (λ i. most_link_turns + most_link_turns) b + sum_below (λ i. most_link_turns + most_link_turns) m + 1) blades memories
