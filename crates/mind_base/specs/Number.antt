-- How a text is read as a number.
use Rattle.std.specs.Prelude.{ℕ, ◌+◌, ◌||◌, ◌==◌, nat_lt, nat_le, nat_eq, List, length, take, drop, codes, Result, Ok, Err, if◌then◌else◌}
use Rattle.std.specs.List.{starts_with, prefix_len, range_with_len}
use Rattle.std.specs.Char.{is_digit}
use Rattle.std.specs.Str.Parse.{digits_value}
use Rattle.mind_base.specs.declared.numbers.NumberFault.{NumberFault}
use Rattle.mind_base.specs.declared.numbers.NumberFault.TheVariants.{NotANumber, TooLarge}

-- the place of the first digit up to which the digits write a number above the limit
abbrev pub passing_place : ℕ → List ℕ → ℕ → ℕ
passing_place radix digits limit = prefix_len (λ place. nat_le (digits_value radix (take (place + 1) digits)) limit) (range_with_len 0 (length digits))

-- the number that the digits write, where it is within the limit; they stand in a text from this place on
abbrev pub limited_value : ℕ → ℕ → List ℕ → ℕ → Result ℕ NumberFault
limited_value radix from digits limit =
    if nat_le (digits_value radix digits) limit
    then Ok (digits_value radix digits)
    else Err (TooLarge (from + passing_place radix digits limit))

-- at least one digit and nothing else; they stand in a text from this place on
abbrev pub numeral_of : ℕ → ℕ → List ℕ → ℕ → Result ℕ NumberFault
numeral_of radix from digits limit =
    if length digits == 0 || nat_lt (prefix_len (λ b. is_digit b radix) digits) (length digits)
    then Err (NotANumber (from + prefix_len (λ b. is_digit b radix) digits))
    else limited_value radix from digits limit

-- the number that a text writes: hexadecimal behind 0x, else decimal
abbrev pub number_of : List ℕ → ℕ → Result ℕ NumberFault
number_of text limit =
    if starts_with nat_eq text (codes "0x") then numeral_of 16 2 (drop 2 text) limit else numeral_of 10 0 text limit
