-- A text that begins with the digits of a number.
use Rattle.std.proofs.Common.{◌≡◌, ℕ, zero, suc, ◌+◌, ◌-◌, ◌<◌, ◌≤◌, ◌^◌, ◌∙◌, true, false, Bool, cond, List, [], ◌∷◌, ◌++◌, length, get_or, take, drop, ◌⊎◌, inl, inr, length-append, ap, sym, refl, arith}
use Rattle.std.specs.List.{prefix_len}
use Rattle.std.specs.Char.{is_digit}
use Rattle.std.specs.Str.Parse.{AllDigits, digits_value}
use Rattle.std.specs.Fmt.{decimal}
use Rattle.std.proofs.lemmas.Fmt.{digits_decimal, digits_value-decimal, decimal_nonempty, first_decimal, decimal_digit, decimal-digits_value}
use Rattle.std.proofs.lemmas.Str.Parse.{IsNumeralModel, numerals_by_value, tells_digits, digits_value-take-le}
use Rattle.std.proofs.lemmas.Bool.{lt-ltb}
use borrow.Author.Tests.{ltb-true}
use Rattle.std.proofs.lemmas.List.{take_at, drop_at, get_or_at, take_all}

pub own : IsNumeralModel (AllDigits 10) (digits_value 10)
own = numerals_by_value (AllDigits 10) tells_digits

abbrev is_ten : ℕ → Bool
is_ten b = is_digit b 10

-- ---- the numbers of texts

pub none_empty : (n : ℕ) (ds : List ℕ) → n < 2 ^ 20 → length ds ≡ 0 → ds ≡ decimal n → ⊥
none_empty n ds small none e = omega (arith, ap length e, decimal_nonempty n (omega arith))

pub none_padded : (n : ℕ) (ds : List ℕ) → n < 2 ^ 20 → get_or ds 0 0 ≡ 48 → 1 < length ds → ds ≡ decimal n → ⊥
none_padded zero ds small first long e = omega (arith, ap length (e ∙ decimal_digit 0 (omega arith)))
none_padded (suc n) ds small first long e = omega (arith, ap (λ xs. get_or xs 0 0) e, first_decimal (suc n) (omega arith) (omega arith))

pub none_large : (n : ℕ) (ds : List ℕ) (i below : ℕ) → n < 2 ^ 20 → n < below → below ≤ digits_value 10 (take i ds) → ds ≡ decimal n → ⊥
none_large n ds i below small inside large e = omega (arith, digits_value-take-le 10 ds i (omega arith), ap (digits_value 10) e, digits_value-decimal own n (omega arith))

pub first_alone : (ds : List ℕ) → ((get_or ds 0 0 ≡ 48) × (length ds ≤ 1)) ⊎ (get_or ds 0 0 ≡ 48 → ⊥) → 0 < length ds → get_or ds 0 0 ≡ 48 → length ds ≡ 1
first_alone ds (inl (p, q)) some e = omega arith
first_alone ds (inr other) some e = absurd (other e)

pub some_value : (ds : List ℕ) → AllDigits 10 ds → 0 < length ds → (get_or ds 0 0 ≡ 48 → length ds ≡ 1) → digits_value 10 ds < 2 ^ 20 → ds ≡ decimal (digits_value 10 ds)
some_value ds digits some first small = sym (decimal-digits_value own ds digits some first (omega arith))

-- ---- the digits at the front of a text

front_step : (x : ℕ) (xs : List ℕ) (n : ℕ) (b : Bool) → is_digit x 10 ≡ b → AllDigits 10 (take n xs) → AllDigits 10 (take (cond b (1 + n) 0) (x ∷ xs))
front_step x xs n true e digits = let s : 1 + n ≡ suc n = omega arith in rw s ((ltb-true _ _ e, digits))
front_step x xs n false e digits = tt

pub front_digits : (xs : List ℕ) → AllDigits 10 (take (prefix_len (λ b. is_digit b 10) xs) xs)
front_digits [] = tt
front_digits (x ∷ xs) = front_step x xs _ (is_digit x 10) refl (front_digits xs)

pub count_of : (ds : List ℕ) (end : ℕ) (rest : List ℕ) → AllDigits 10 ds → is_digit end 10 ≡ false → prefix_len (λ b. is_digit b 10) (ds ++ end ∷ rest) ≡ length ds
count_of [] end rest digits stop = rw stop refl
count_of (d ∷ ds) end rest digits stop = let e : is_digit d 10 ≡ true = lt-ltb _ _ digits.0 in rw e (omega (arith, count_of ds end rest digits.1 stop))

-- what a text is that begins with a number and the byte that ends it
pub record Ends (text : List ℕ) (count n end : ℕ) (rest : List ℕ) : Type 0 where
  pub inside : count < length text
  pub byte : get_or text count 0 ≡ end
  pub front : take count text ≡ decimal n
  pub behind : drop count text ≡ end ∷ rest

pub ends : (text : List ℕ) (count n end : ℕ) (rest : List ℕ) → n < 2 ^ 20 → is_digit end 10 ≡ false → count ≡ prefix_len (λ b. is_digit b 10) text
    → text ≡ decimal n ++ end ∷ rest → Ends text count n end rest
ends text count n end rest small stop is e =
    let k : count ≡ length (decimal n) = is ∙ ap (prefix_len (λ b. is_digit b 10)) e ∙ count_of (decimal n) end rest (digits_decimal own n (omega arith)) stop in
    record {
      inside = omega (arith, ap length e, length-append (decimal n) (end ∷ rest));
      byte = rw (k, e) (get_or_at (decimal n) end rest 0 _ refl);
      front = rw (k, e) (take_at (decimal n) (end ∷ rest) _ refl);
      behind = rw (k, e) (drop_at (decimal n) (end ∷ rest) _ refl);
    }

pub tail_is : (text : List ℕ) (end : ℕ) (rest : List ℕ) → text ≡ end ∷ rest → take (length text - 1) (drop 1 text) ≡ rest
tail_is text end rest e = rw e (take_all (length (end ∷ rest) - 1) rest (omega arith))
