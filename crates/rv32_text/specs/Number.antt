-- Numbers and their ranges.
use Rattle.std.specs.Prelude.{ℕ, ◌+◌, ◌-◌, ◌^◌, ◌==◌, ◌||◌, ◌%◌, not, nat_eq, List, drop, codes, ℤ, pos, neg_ℤ, unsigned_abs, int_lt, Option, Some, None, Result, Ok, Err, ok_or, if◌then◌else◌}
use Rattle.std.specs.List.{starts_with}
use Rattle.std.specs.Option.{option_map}
use Rattle.mind_base.specs.declared.numbers.NumberFault.{NumberFault}
use Rattle.mind_base.specs.declared.numbers.NumberFault.TheVariants.{NotANumber, TooLarge}
use Rattle.mind_base.specs.Number.{number_of}
use Rattle.rv32_text.specs.declared.faults.TextFault.{TextFault}
use Rattle.rv32_text.specs.declared.faults.TextFault.TheVariants as faults
use Rattle.plain_text.specs.Reading.{◌>>=◌}

-- the greatest word
abbrev pub greatest_word : ℕ
greatest_word = 2 ^ 32 - 1

-- a number above the greatest word counts as 2 ^ 32: it is outside every range, as that is
abbrev pub size_in : Result ℕ NumberFault → Option ℕ
size_in (Ok n) = Some n
size_in (Err (NotANumber place)) = None
size_in (Err (TooLarge place)) = Some (2 ^ 32)

-- the number that a text without a sign writes, if it writes one
unfoldable pub magnitude_of : List ℕ → Option ℕ
magnitude_of text = size_in (number_of text greatest_word)

-- the number that a text writes, which a - before it makes negative
unfoldable pub integer_of : List ℕ → Option ℤ
integer_of text =
    if starts_with nat_eq text (codes "-")
    then option_map (λ n. neg_ℤ (pos n)) (magnitude_of (drop 1 text))
    else option_map pos (magnitude_of text)

-- an operand that is to be a number
unfoldable pub number_in : List ℕ → Result ℤ TextFault
number_in text = ok_or (integer_of text) faults.Operand

-- a number from `low` to below `above`
unfoldable pub between : ℤ → ℤ → ℤ → Result ℤ TextFault
between low above z = if int_lt z low || not (int_lt z above) then Err faults.Range else Ok z

-- a number from 0 to the greatest
unfoldable pub up_to : ℕ → ℤ → Result ℕ TextFault
up_to most z = between (pos 0) (pos (most + 1)) z >>= (λ n. Ok (unsigned_abs n))

-- a number that has a place in two's complement, where the sign bit is worth `half`
unfoldable pub signed_within : ℕ → ℤ → Result ℤ TextFault
signed_within half z = between (neg_ℤ (pos half)) (pos half) z

-- the same for an offset, which is even
unfoldable pub even_within : ℕ → ℤ → Result ℤ TextFault
even_within half z = signed_within half z >>= (λ offset. if unsigned_abs offset % 2 == 0 then Ok offset else Err faults.Range)
