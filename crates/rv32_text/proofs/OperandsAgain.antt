-- The operands that are written, a comma and a space apart, are found again.
use Rattle.std.proofs.Common.{◌≡◌, ℕ, suc, ◌+◌, Bool, true, false, not, ◌==◌, List, [], ◌∷◌, ◌++◌, length, filter, refl, sym, ap, ◌∙◌, arith}
use Rattle.std.specs.Prelude.{count_by}
use Rattle.std.specs.List.{list_all, after_first}
use Rattle.std.proofs.lemmas.Bool.{ne_eqb, and_parts}
use Rattle.std.proofs.lemmas.List.{append-nil}
use Rattle.std.proofs.lemmas.List.Sums.{length-filter}
use Rattle.rv32_text.specs.Blank.{without_blanks_before, without_blanks_behind, trimmed}
use Rattle.rv32_text.specs.Operand.{operand_count, first_operand, second_operand, third_operand}
use Rattle.rv32_text.proofs.Clean.{Lacks, not_true, all_weaken, cut_before, cut_behind, uncut, Starts, Ends, starts, ends, starts_more, ends_behind, is_solid, space_trimmed}
use Rattle.rv32_text.proofs.NamesAgain.{is_clean, IsPiece}

abbrev pub is_comma : ℕ → Bool
is_comma b = b == 44

clean_solid : (b : ℕ) → is_clean b ≡ true → is_solid b ≡ true
clean_solid b e = grind arith

clean_no_comma : (b : ℕ) → is_clean b ≡ true → not (is_comma b) ≡ true
clean_no_comma b e = grind arith

pub piece_solid : (a : List ℕ) → IsPiece a → list_all is_solid a ≡ true
piece_solid a p = all_weaken is_clean is_solid clean_solid a p.clean

pub piece_starts : (a : List ℕ) → IsPiece a → Starts is_solid a
piece_starts a p = starts is_solid a (piece_solid a p) p.some

pub piece_ends : (a : List ℕ) → IsPiece a → Ends is_solid a
piece_ends a p = ends is_solid a (piece_solid a p) p.some

piece_no_comma : (a : List ℕ) → IsPiece a → Lacks is_comma a
piece_no_comma a p = all_weaken is_clean (λ b. not (is_comma b)) clean_no_comma a p.clean

-- behind a space
pub first_alone : (a : List ℕ) → IsPiece a → first_operand (32 ∷ a) ≡ a
unfolding first_operand
first_alone a p =
    ap trimmed (uncut is_comma (32 ∷ a) (piece_no_comma a p)) ∙ space_trimmed a (piece_starts a p) (piece_ends a p)

pub first_before : (a rest : List ℕ) → IsPiece a → first_operand (32 ∷ (a ++ 44 ∷ rest)) ≡ a
unfolding first_operand
first_before a rest p =
    ap trimmed (cut_before is_comma (32 ∷ a) 44 rest (piece_no_comma a p) refl) ∙ space_trimmed a (piece_starts a p) (piece_ends a p)

behind_first : (a rest : List ℕ) → IsPiece a → after_first is_comma (32 ∷ (a ++ 44 ∷ rest)) ≡ rest
behind_first a rest p = cut_behind is_comma (32 ∷ a) 44 rest (piece_no_comma a p) refl

pub second_alone : (a b : List ℕ) → IsPiece a → IsPiece b → second_operand (32 ∷ (a ++ 44 ∷ 32 ∷ b)) ≡ b
unfolding second_operand
second_alone a b p q = ap first_operand (behind_first a (32 ∷ b) p) ∙ first_alone b q

pub second_before : (a b rest : List ℕ) → IsPiece a → IsPiece b → second_operand (32 ∷ (a ++ 44 ∷ 32 ∷ (b ++ 44 ∷ rest))) ≡ b
unfolding second_operand
second_before a b rest p q = ap first_operand (behind_first a (32 ∷ (b ++ 44 ∷ rest)) p) ∙ first_before b rest q

pub third_alone : (a b c : List ℕ) → IsPiece a → IsPiece b → IsPiece c → third_operand (32 ∷ (a ++ 44 ∷ 32 ∷ (b ++ 44 ∷ 32 ∷ c))) ≡ c
unfolding third_operand
third_alone a b c p q r = ap second_operand (behind_first a (32 ∷ (b ++ 44 ∷ 32 ∷ c)) p) ∙ second_alone b c q r

-- ---- how many there are

commas_through : (xs ys : List ℕ) → Lacks is_comma xs → length (filter is_comma (xs ++ ys)) ≡ length (filter is_comma ys)
commas_through [] ys lacks = refl
commas_through (x ∷ xs) ys lacks =
    let parts = and_parts (not (is_comma x)) (list_all (λ b. not (is_comma b)) xs) lacks in
    rw (not_true (is_comma x) parts.0) (commas_through xs ys parts.1)

counted : (xs : List ℕ) (n : ℕ) → length (filter is_comma xs) ≡ n → count_by is_comma xs ≡ n
counted xs n e = sym (length-filter is_comma xs) ∙ e

commas_none : (a : List ℕ) → IsPiece a → length (filter is_comma (32 ∷ a)) ≡ 0
commas_none a p =
    let e = commas_through a [] (piece_no_comma a p) in
    ap (λ (xs : List ℕ). length (filter is_comma xs)) (sym (append-nil a)) ∙ e

commas_more : (a rest : List ℕ) (n : ℕ) → IsPiece a → length (filter is_comma rest) ≡ n → length (filter is_comma (32 ∷ (a ++ 44 ∷ rest))) ≡ suc n
commas_more a rest n p e = commas_through a (44 ∷ rest) (piece_no_comma a p) ∙ ap suc e

-- text that is not empty has one operand more than commas
some_operands : (rest : List ℕ) (n : ℕ) → Starts is_solid rest → Ends is_solid rest → count_by is_comma (32 ∷ rest) ≡ n → operand_count (32 ∷ rest) ≡ 1 + n
unfolding operand_count
some_operands rest n s e commas =
    let whole = space_trimmed rest s e in
    let some : (length rest == 0) ≡ false = ne_eqb _ _ (λ z. omega (arith, z, ap length s.is)) in
    rw (whole, some, commas) refl

pub one_operand : (a : List ℕ) → IsPiece a → operand_count (32 ∷ a) ≡ 1
one_operand a p = some_operands a 0 (piece_starts a p) (piece_ends a p) (counted (32 ∷ a) 0 (commas_none a p))

pub two_operands : (a b : List ℕ) → IsPiece a → IsPiece b → operand_count (32 ∷ (a ++ 44 ∷ 32 ∷ b)) ≡ 2
two_operands a b p q =
    some_operands (a ++ 44 ∷ 32 ∷ b) 1 (starts_more is_solid a (44 ∷ 32 ∷ b) (piece_starts a p))
    (ends_behind is_solid a (44 ∷ 32 ∷ b) (ends_behind is_solid (44 ∷ 32 ∷ []) b (piece_ends b q)))
    (counted (32 ∷ (a ++ 44 ∷ 32 ∷ b)) 1 (commas_more a (32 ∷ b) 0 p (commas_none b q)))

pub three_operands : (a b c : List ℕ) → IsPiece a → IsPiece b → IsPiece c → operand_count (32 ∷ (a ++ 44 ∷ 32 ∷ (b ++ 44 ∷ 32 ∷ c))) ≡ 3
three_operands a b c p q r =
    some_operands (a ++ 44 ∷ 32 ∷ (b ++ 44 ∷ 32 ∷ c)) 2 (starts_more is_solid a (44 ∷ 32 ∷ (b ++ 44 ∷ 32 ∷ c)) (piece_starts a p))
    (ends_behind is_solid a (44 ∷ 32 ∷ (b ++ 44 ∷ 32 ∷ c)) (ends_behind is_solid (44 ∷ 32 ∷ []) (b ++ 44 ∷ 32 ∷ c) (ends_behind is_solid b (44 ∷ 32 ∷ c) (ends_behind is_solid (44 ∷ 32 ∷ []) c (piece_ends c r)))))
    (counted (32 ∷ (a ++ 44 ∷ 32 ∷ (b ++ 44 ∷ 32 ∷ c))) 2 (commas_more a (32 ∷ (b ++ 44 ∷ 32 ∷ c)) 1 p (commas_more b (32 ∷ c) 0 q (commas_none c r))))

pub no_operands : operand_count [] ≡ 0
unfolding operand_count without_blanks_behind without_blanks_before
no_operands = refl
