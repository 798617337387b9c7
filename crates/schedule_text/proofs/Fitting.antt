-- The events of lines whose numbers fit a rack fit it too.
use Rattle.std.proofs.Common.{ℕ, zero, suc, ◌+◌, ◌<◌, List, [], ◌∷◌, ◌++◌, arith}
use Rattle.std.specs.List.{flat_map, range_with_len, AllByRecursion}
use Rattle.mind_base.specs.declared.events.Event.{Event}
use Rattle.schedule_text.specs.declared.entries.Entry.{Entry}
use Rattle.schedule_text.specs.declared.entries.Entry.TheVariants.{Nothing, One, Rounds}
use Rattle.schedule_text.specs.declared.sizes.Sizes.{Sizes}
use Rattle.schedule_text.specs.Event.{IsEventIn, IsEntryIn}
use Rattle.schedule_text.specs.Round.{turn, turns, rounds, written_out}

all_append : {A : Type 0} (P : A → Type 0) (xs ys : List A) → AllByRecursion P xs → AllByRecursion P ys → AllByRecursion P (xs ++ ys)
all_append P [] ys front back = back
all_append P (x ∷ xs) ys front back = (front.0, all_append P xs ys front.1 back)

all_flat : {A : Type 0} (P : A → Type 0) (f : ℕ → List A) (from n : ℕ) → ((k : ℕ) → k < from + n → AllByRecursion P (f k)) → AllByRecursion P (flat_map f (range_with_len from n))
all_flat P f from zero each = tt
all_flat P f from (suc n) each =
    all_append P (f from) (flat_map f (range_with_len (from + 1) n)) (each from (omega arith)) (all_flat P f (from + 1) n (λ k lt. each k (omega arith)))

turns_fit : (sizes : Sizes) → AllByRecursion (IsEventIn sizes) (turns sizes.threads)
unfolding turns
turns_fit sizes = all_flat (IsEventIn sizes) turn 0 sizes.threads (λ hart lt. let fits : hart < sizes.threads = omega arith in (fits, (tt, (fits, (tt, tt)))))

rounds_fit : (sizes : Sizes) (count : ℕ) → AllByRecursion (IsEventIn sizes) (rounds sizes.threads count)
unfolding rounds
rounds_fit sizes count = all_flat (IsEventIn sizes) (λ round. turns sizes.threads) 0 count (λ round lt. turns_fit sizes)

written_fits : (sizes : Sizes) (entry : Entry) → IsEntryIn sizes entry → AllByRecursion (IsEventIn sizes) (written_out sizes.threads entry)
written_fits sizes Nothing fits = tt
written_fits sizes (One event) fits = (fits, tt)
written_fits sizes (Rounds count) fits = rounds_fit sizes count

pub still_fit : (sizes : Sizes) (before : List Event) (entry : Entry) → AllByRecursion (IsEventIn sizes) before → IsEntryIn sizes entry
    → AllByRecursion (IsEventIn sizes) (before ++ written_out sizes.threads entry)
still_fit sizes before entry front fits = all_append (IsEventIn sizes) before (written_out sizes.threads entry) front (written_fits sizes entry fits)
