-- How many wires a rack has, and that each is one of its own.
use Rattle.std.proofs.Common.{◌≡◌, ℕ, zero, suc, ◌+◌, ◌*◌, ◌%◌, ◌<◌, List, [], ◌∷◌, ◌++◌, length, get_or, refl, arith}
use Rattle.std.specs.List.{flat_map, range_with_len, AllByRecursion}
use Rattle.std.proofs.Math.Nat.{mod-lt}
use Rattle.std.proofs.lemmas.List.{length-append}
use Rattle.mind_base.specs.declared.links.LinkKind.{LinkKind}
use Rattle.mind_base.specs.declared.links.LinkKind.TheVariants.{Up, Down, To, From}
use Rattle.schedule_text.specs.declared.sizes.Sizes.{Sizes}
use Rattle.schedule_text.specs.Event.{IsLinkIn}
use Rattle.schedule_text.specs.Link.{ends_of}
use Rattle.rack_gen.specs.declared.wires.Wire.{Wire}
use Rattle.rack_gen.specs.Line.{wire_at}
use Rattle.rack_gen.specs.Wire.{wires_of_link, wires_between, wires_of}

-- the wires of the blades from this number on
abbrev wires_on : LinkKind → LinkKind → ℕ → ℕ → List Wire
wires_on one other from blades = flat_map (λ number. wires_of_link one number ++ wires_of_link other number) (range_with_len from blades)

length_on : (one other : LinkKind) (from blades : ℕ) → length (wires_on one other from blades) ≡ 4 * blades
length_on one other from zero = omega arith
length_on one other from (suc blades) = omega (arith, length_on one other (from + 1) blades)

pub length_between : (one other : LinkKind) (blades : ℕ) → length (wires_between one other blades) ≡ 4 * blades
unfolding wires_between
length_between one other blades = length_on one other 0 blades

pub length_wires : (sizes : Sizes) → length (wires_of sizes) ≡ 4 * (sizes.blades + sizes.memories)
length_wires sizes = omega (
  arith,
  length-append (wires_between Up Down sizes.blades) (wires_between To From sizes.memories),
  length_between Up Down sizes.blades,
  length_between To From sizes.memories,
)

-- ---- each is the rack's

abbrev pub IsWireIn : Sizes → Wire → Type 0
IsWireIn sizes wire = IsLinkIn sizes wire.link

all_on : (sizes : Sizes) (one other : LinkKind) (from blades : ℕ) → from + blades ≡ ends_of sizes one → ends_of sizes other ≡ ends_of sizes one
    → AllByRecursion (IsWireIn sizes) (wires_on one other from blades)
all_on sizes one other from zero end same = tt
all_on sizes one other from (suc blades) end same =
    let within : from < ends_of sizes one = omega (arith, end) in
    let also : from < ends_of sizes other = omega (arith, end, same) in
    (within, (within, (also, (also, all_on sizes one other (from + 1) blades (omega (arith, end)) same))))

all_append : (sizes : Sizes) (xs ys : List Wire) → AllByRecursion (IsWireIn sizes) xs → AllByRecursion (IsWireIn sizes) ys → AllByRecursion (IsWireIn sizes) (xs ++ ys)
all_append sizes [] ys front back = back
all_append sizes (x ∷ xs) ys front back = (front.0, all_append sizes xs ys front.1 back)

all_wires : (sizes : Sizes) → AllByRecursion (IsWireIn sizes) (wires_of sizes)
unfolding wires_between
all_wires sizes =
    all_append sizes (wires_between Up Down sizes.blades) (wires_between To From sizes.memories)
    (all_on sizes Up Down 0 sizes.blades (omega arith) refl) (all_on sizes To From 0 sizes.memories (omega arith) refl)

one_of : (sizes : Sizes) (wires : List Wire) (i : ℕ) (d : Wire) → AllByRecursion (IsWireIn sizes) wires → i < length wires → IsWireIn sizes (get_or wires i d)
one_of sizes [] i d all lt = absurd (omega arith)
one_of sizes (wire ∷ wires) zero d all lt = all.0
one_of sizes (wire ∷ wires) (suc i) d all lt = one_of sizes wires i d all.1 (omega arith)

pub wire_fits : (sizes : Sizes) (n : ℕ) → 0 < sizes.blades → IsWireIn sizes (wire_at (wires_of sizes) n)
wire_fits sizes n some = one_of sizes (wires_of sizes) (n % length (wires_of sizes)) _ (all_wires sizes) (mod-lt n (omega (arith, length_wires sizes)))
