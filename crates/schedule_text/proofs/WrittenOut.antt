-- How many events rounds are, and one round or turn more.
use Rattle.std.proofs.Common.{◌≡◌, ℕ, zero, suc, ◌+◌, ◌*◌, List, [], ◌∷◌, ◌++◌, length, refl, sym, ap, ◌∙◌, arith}
use Rattle.std.specs.List.{flat_map, range_with_len}
use Rattle.std.proofs.lemmas.List.{length-append, flat_map_more, map-id}
use Rattle.std.proofs.lemmas.List.FromFn.{map-range_with_len_more}
use Rattle.schedule_text.specs.Round.{turn, turns, rounds}

range_more : (n : ℕ) → range_with_len 0 (n + 1) ≡ range_with_len 0 n ++ n ∷ []
range_more n = sym (map-id (range_with_len 0 (n + 1))) ∙ map-range_with_len_more (λ (k : ℕ). k) 0 n n (omega arith) ∙ ap (λ (ks : List ℕ). ks ++ n ∷ []) (map-id (range_with_len 0 n))

-- what a loop over n numbers puts behind a list, one number more
pub flat_more : {A : Type 0} (f : ℕ → List A) (front : List A) (n : ℕ) → (front ++ flat_map f (range_with_len 0 n)) ++ f n ≡ front ++ flat_map f (range_with_len 0 (n + 1))
flat_more f front n = flat_map_more f front (range_with_len 0 n) n ∙ ap (λ (ks : List ℕ). front ++ flat_map f ks) (sym (range_more n))

length_flat : {A : Type 0} (f : ℕ → List A) (k : ℕ) → ((n : ℕ) → length (f n) ≡ k) → (from n : ℕ) → length (flat_map f (range_with_len from n)) ≡ k * n
length_flat f k each from zero = omega arith
length_flat f k each from (suc n) =
    omega (arith, length-append (f from) (flat_map f (range_with_len (from + 1) n)), each from, length_flat f k each (from + 1) n)

length_turns : (threads : ℕ) → length (turns threads) ≡ 4 * threads
unfolding turns
length_turns threads = length_flat turn 4 (λ hart. refl) 0 threads

pub length_rounds : (threads count : ℕ) → length (rounds threads count) ≡ 4 * threads * count
unfolding rounds
length_rounds threads count = length_flat (λ round. turns threads) (4 * threads) (λ round. length_turns threads) 0 count
