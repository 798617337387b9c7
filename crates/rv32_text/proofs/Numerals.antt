-- The numbers that are written are read again.
use Rattle.std.proofs.Common.{◌≡◌, ℕ, suc, ◌+◌, ◌*◌, ◌/◌, ◌%◌, ◌<◌, ◌≤◌, ◌^◌, true, false, Bool, ◌&&◌, eqb, ltb, List, [], ◌∷◌, length, ap, refl, arith, Some, Ok}
use Rattle.std.specs.Prelude.{nat_le, nat_eq, codes, ℤ, pos, negsuc, neg_ℤ, ◌≤ℤ◌, ◌<ℤ◌, int_lt}
use Rattle.std.specs.List.{list_all, prefix_len, starts_with}
use Rattle.std.specs.Char.{is_digit, is_ascii_digit, digit_value}
use Rattle.std.specs.Str.Parse.{AllDigits, digits_value}
use Rattle.std.specs.Fmt.{decimal, signed_decimal, digit_glyph}
use Rattle.std.proofs.lemmas.Fmt.{digits_decimal, digits_value-decimal, decimal_nonempty, length-decimal-le}
use Rattle.std.proofs.lemmas.Str.Parse.{IsNumeralModel, numerals_by_value, tells_digits}
use Rattle.std.proofs.lemmas.Bool.{lt-ltb, le-ltb, le-leb, ne_eqb}
use Rattle.std.proofs.lemmas.Int.{ints}
use Rattle.mind_base.specs.Number.{numeral_of}
use Rattle.rv32_decode.specs.Instr.{IsSigned, IsEven}
use Rattle.rv32_text.specs.Number.{greatest_word, magnitude_of, integer_of, number_in, between, up_to, signed_within, even_within}
use Rattle.rv32_text.specs.Written.{hex_glyph, word_text}
use Rattle.rv32_text.proofs.Clean.{both, all_weaken}
use Rattle.rv32_text.proofs.NamesAgain.{is_clean, IsPiece, EachBelow, each_below}

own : IsNumeralModel (AllDigits 10) (digits_value 10)
own = numerals_by_value (AllDigits 10) tells_digits

-- ---- digits

digit_byte : (b : ℕ) → digit_value b < 10 → (48 ≤ b) × (b < 58)
digit_byte b lt = grind arith

digits_clean : (ds : List ℕ) → AllDigits 10 ds → list_all is_ascii_digit ds ≡ true
digits_clean [] all = refl
digits_clean (d ∷ ds) all =
    let range = digit_byte d all.0 in
    both _ _ (both _ _ (le-leb _ _ range.0) (le-leb _ _ (omega (arith, range.1)))) (digits_clean ds all.1)

digits_whole : (ds : List ℕ) → AllDigits 10 ds → prefix_len (λ b. is_digit b 10) ds ≡ length ds
digits_whole [] all = refl
digits_whole (d ∷ ds) all = let e : is_digit d 10 ≡ true = lt-ltb _ _ all.0 in rw e (omega (arith, digits_whole ds all.1))

and_none : (a : Bool) → (a && false) ≡ false
and_none true = refl
and_none false = refl

-- digits do not begin with 0x
no_prefix : (ds : List ℕ) → AllDigits 10 ds → starts_with nat_eq ds (codes "0x") ≡ false
no_prefix [] all = refl
no_prefix (x ∷ []) all = and_none _
no_prefix (x ∷ y ∷ ds) all =
    let range = digit_byte y all.1.0 in
    let other : eqb 120 y ≡ false = ne_eqb 120 y (λ e. omega (arith, range.1)) in
    rw other (and_none _)

read_digits : (ds : List ℕ) (n : ℕ) → AllDigits 10 ds → 0 < length ds → digits_value 10 ds ≡ n → n ≤ greatest_word → numeral_of 10 0 ds greatest_word ≡ Ok n
read_digits ds n all some value small =
    let e1 : eqb (length ds) 0 ≡ false = ne_eqb _ _ (λ e. omega arith) in
    let e2 : ltb (prefix_len (λ b. is_digit b 10) ds) (length ds) ≡ false = le-ltb _ _ (omega (arith, digits_whole ds all)) in
    let e3 : nat_le (digits_value 10 ds) greatest_word ≡ true = le-leb _ _ (omega (arith, value)) in
    rw (e1, e2, e3) (ap Ok value)

read_number : (ds : List ℕ) (n : ℕ) → AllDigits 10 ds → 0 < length ds → digits_value 10 ds ≡ n → n ≤ greatest_word → magnitude_of ds ≡ Some n
unfolding magnitude_of
read_number ds n all some value small = rw (no_prefix ds all, read_digits ds n all some value small) refl

pub magnitude_again : (n : ℕ) → n ≤ greatest_word → magnitude_of (decimal n) ≡ Some n
magnitude_again n small =
    read_number (decimal n) n (digits_decimal own n (omega arith)) (decimal_nonempty n (omega arith)) (digits_value-decimal own n (omega arith)) small

no_sign : (ds : List ℕ) → AllDigits 10 ds → starts_with nat_eq ds (codes "-") ≡ false
no_sign [] all = refl
no_sign (x ∷ xs) all =
    let range = digit_byte x all.0 in
    let other : eqb 45 x ≡ false = ne_eqb 45 x (λ e. omega (arith, e, range.0)) in
    rw other refl

-- the magnitude of a number is at most the greatest word
abbrev pub IsShort : ℤ → Type 0
IsShort (pos n) = n ≤ greatest_word
IsShort (negsuc n) = n < greatest_word

pub number_again : (z : ℤ) → IsShort z → number_in (signed_decimal z) ≡ Ok z
unfolding number_in integer_of
number_again (pos n) small =
    let digits = digits_decimal own n (omega arith) in
    rw (no_sign (decimal n) digits, magnitude_again n small) refl
number_again (negsuc n) small = rw (magnitude_again (suc n) (omega arith)) refl

clean_digit : (b : ℕ) → is_ascii_digit b ≡ true → is_clean b ≡ true
clean_digit b e = grind arith

pub decimal_digits : (n : ℕ) → n ≤ greatest_word → list_all is_ascii_digit (decimal n) ≡ true
decimal_digits n small = digits_clean (decimal n) (digits_decimal own n (omega arith))

decimal_clean : (n : ℕ) → n ≤ greatest_word → list_all is_clean (decimal n) ≡ true
decimal_clean n small =
    all_weaken is_ascii_digit is_clean clean_digit (decimal n) (decimal_digits n small)

decimal_size : (n : ℕ) → n ≤ greatest_word → length (decimal n) ≤ 10
decimal_size n small = length-decimal-le 10 n (omega arith) (omega arith) (omega arith)

pub signed_size : (z : ℤ) → IsShort z → length (signed_decimal z) ≤ 11
signed_size (pos n) small = omega (arith, decimal_size n small)
signed_size (negsuc n) small = omega (arith, decimal_size (suc n) (omega arith))

pub decimal_piece : (n : ℕ) → n ≤ greatest_word → IsPiece (decimal n)
decimal_piece n small =
    record { some = decimal_nonempty n (omega arith); short = omega (arith, decimal_size n small); clean = decimal_clean n small }

pub signed_piece : (z : ℤ) → IsShort z → IsPiece (signed_decimal z)
signed_piece (pos n) small = decimal_piece n small
signed_piece (negsuc n) small =
    record { some = omega arith; short = omega (arith, signed_size (negsuc n) small); clean = decimal_clean (suc n) (omega arith) }

-- a sign or a digit
abbrev pub is_numeral_byte : ℕ → Bool
is_numeral_byte b = nat_le 45 b && nat_le b 57

numeral_digit : (b : ℕ) → is_ascii_digit b ≡ true → is_numeral_byte b ≡ true
numeral_digit b e = grind arith

decimal_bytes : (n : ℕ) → n ≤ greatest_word → list_all is_numeral_byte (decimal n) ≡ true
decimal_bytes n small =
    all_weaken is_ascii_digit is_numeral_byte numeral_digit (decimal n) (decimal_digits n small)

pub signed_bytes : (z : ℤ) → IsShort z → list_all is_numeral_byte (signed_decimal z) ≡ true
signed_bytes (pos n) small = decimal_bytes n small
signed_bytes (negsuc n) small = decimal_bytes (suc n) (omega arith)

-- ---- ranges

between_again : (low above z : ℤ) → low ≤ℤ z → z <ℤ above → between low above z ≡ Ok z
unfolding between
between_again low above z from below =
    let e1 : int_lt z low ≡ false = grind (arith, ints) in
    let e2 : int_lt z above ≡ true = grind (arith, ints) in
    rw (e1, e2) refl

pub up_to_again : (limit n : ℕ) → n ≤ limit → up_to limit (pos n) ≡ Ok n
unfolding up_to
up_to_again limit n small = rw (between_again (pos 0) (pos (limit + 1)) (pos n) (omega (arith, ints)) (omega (arith, ints))) refl

pub signed_again : (half : ℕ) (z : ℤ) → IsSigned half z → signed_within half z ≡ Ok z
unfolding signed_within
signed_again half z within = between_again (neg_ℤ (pos half)) (pos half) z within.0 within.1

pub even_again : (half : ℕ) (z : ℤ) → IsSigned half z → IsEven z → even_within half z ≡ Ok z
unfolding even_within
even_again half z within even = rw (signed_again half z within, even) refl

pub short_from : (half : ℕ) (z : ℤ) → half < 2 ^ 31 → IsSigned half z → IsShort z
short_from half (pos n) small within = omega (arith, ints)
short_from half (negsuc n) small within = omega (arith, ints)

-- ---- hexadecimal

abbrev IsGlyph : ℕ → Type 0
IsGlyph d = (is_digit (digit_glyph false d) 16 ≡ true) × (digit_value (digit_glyph false d) ≡ d) × (is_clean (digit_glyph false d) ≡ true)

glyphs : EachBelow IsGlyph 16
glyphs = ((((((((((((((((tt, (refl, refl, refl)), (refl, refl, refl)), (refl, refl, refl)), (refl, refl, refl)), (refl, refl, refl)), (refl, refl, refl)), (refl, refl, refl)), (refl, refl, refl)), (refl, refl, refl)), (refl, refl, refl)), (refl, refl, refl)), (refl, refl, refl)), (refl, refl, refl)), (refl, refl, refl)), (refl, refl, refl)), (refl, refl, refl))

glyph_again : (word place : ℕ) → IsGlyph (word / 2 ^ (4 * place) % 16)
glyph_again word place = each_below IsGlyph 16 (word / 2 ^ (4 * place) % 16) glyphs (omega arith)

abbrev hex_digits : ℕ → List ℕ
hex_digits w = hex_glyph w 7 ∷ hex_glyph w 6 ∷ hex_glyph w 5 ∷ hex_glyph w 4 ∷ hex_glyph w 3 ∷ hex_glyph w 2 ∷ hex_glyph w 1 ∷ hex_glyph w 0 ∷ []

hex_whole : (w : ℕ) → prefix_len (λ b. is_digit b 16) (hex_digits w) ≡ 8
hex_whole w =
    rw ((glyph_again w 7).0, (glyph_again w 6).0, (glyph_again w 5).0, (glyph_again w 4).0, (glyph_again w 3).0, (glyph_again w 2).0, (glyph_again w 1).0, (glyph_again w 0).0) refl

hex_value : (w : ℕ) → w < 2 ^ 32 → digits_value 16 (hex_digits w) ≡ w
hex_value w small =
    rw ((glyph_again w 7).1, (glyph_again w 6).1, (glyph_again w 5).1, (glyph_again w 4).1, (glyph_again w 3).1, (glyph_again w 2).1, (glyph_again w 1).1, (glyph_again w 0).1) (omega arith)

pub word_again : (w : ℕ) → w < 2 ^ 32 → number_in (word_text w) ≡ Ok (pos w)
unfolding number_in integer_of magnitude_of
word_again w small =
    let e3 : nat_le (digits_value 16 (hex_digits w)) greatest_word ≡ true = le-leb _ _ (omega (arith, hex_value w small)) in
    rw (hex_whole w, e3, hex_value w small) refl

pub word_piece : (w : ℕ) → IsPiece (word_text w)
word_piece w =
    record {
      some = omega arith;
      short = omega arith;
      clean = rw ((glyph_again w 7).2, (glyph_again w 6).2, (glyph_again w 5).2, (glyph_again w 4).2, (glyph_again w 3).2, (glyph_again w 2).2, (glyph_again w 1).2, (glyph_again w 0).2) refl;
    }
