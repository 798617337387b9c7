-- The value that digits write grows with each digit.
use Rattle.std.proofs.Common.{◌≡◌, ℕ, zero, suc, ◌+◌, ◌*◌, ◌<◌, ◌≤◌, false, leb, List, [], ◌∷◌, length, get_or, take, Err, refl, arith}
use Rattle.std.specs.List.{range_with_len}
use Rattle.std.specs.Char.{digit_value}
use Rattle.std.specs.Str.Parse.{digits_value, digits_value_after}
use Rattle.std.proofs.lemmas.List.Sums.{prefix_len_is}
use Rattle.std.proofs.lemmas.List.FromFn.{get_or-range_with_len, length-range_with_len}
use Rattle.std.proofs.lemmas.Bool.{le-leb, lt-leb}
use Rattle.std.proofs.Math.Nat.{mul-le-mul_left}
use Rattle.mind_base.specs.declared.numbers.NumberFault.TheVariants.{TooLarge}
use Rattle.mind_base.specs.Number.{passing_place, limited_value}

step_ge : (radix n d : ℕ) → 0 < radix → n ≤ n * radix + d
step_ge radix n d some = omega (arith, mul-le-mul_left n (let one : 1 ≤ radix = omega arith in one))

after_ge : (radix n : ℕ) (ds : List ℕ) → 0 < radix → n ≤ digits_value_after radix n ds
after_ge radix n [] some = omega arith
after_ge radix n (c ∷ cs) some = omega (arith, step_ge radix n (digit_value c) some, after_ge radix (n * radix + digit_value c) cs some)

front_le : (radix n k : ℕ) (ds : List ℕ) → 0 < radix → digits_value_after radix n (take k ds) ≤ digits_value_after radix n ds
front_le radix n zero ds some = after_ge radix n ds some
front_le radix n (suc k) [] some = omega arith
front_le radix n (suc k) (c ∷ cs) some = front_le radix (n * radix + digit_value c) k cs some

-- the answer at the digit with which the limit is passed first
pub passes : (radix from : ℕ) (digits : List ℕ) (limit i : ℕ) → 0 < radix → i < length digits → limit < digits_value radix (take (i + 1) digits)
    → ((k : ℕ) → k < i → digits_value radix (take (k + 1) digits) ≤ limit) → Err (TooLarge (from + i)) ≡ limited_value radix from digits limit
passes radix from digits limit i some in_digits above within =
    let all : leb (digits_value radix digits) limit ≡ false = lt-leb _ _ (omega (arith, front_le radix 0 (i + 1) digits some)) in
    let places = range_with_len 0 (length digits) in
    let len : length places ≡ length digits = length-range_with_len 0 (length digits) in
    let place : passing_place radix digits limit ≡ i = prefix_len_is (λ p. leb (digits_value radix (take (p + 1) digits)) limit) places i 0 (omega arith)
    (λ k lt. let is : get_or places k 0 ≡ k = omega (arith, get_or-range_with_len 0 (length digits) k 0 (omega arith)) in rw is (le-leb _ _ (within k lt)))
    (λ lt. let is : get_or places i 0 ≡ i = omega (arith, get_or-range_with_len 0 (length digits) i 0 in_digits) in rw is (lt-leb _ _ above)) in
    rw (all, place) refl
