-- The numbers of generated lines are below 64. What is said here of their digits was looked up at each of them.
use Rattle.std.proofs.Common.{◌≡◌, ℕ, zero, suc, ◌-◌, ◌<◌, ◌≤◌, Bool, true, false, ◌&&◌, not, eqb, ltb, leb, length, get_or, Result, Ok, Err, ap, refl, arith, below_more}
use Rattle.std.specs.Fmt.{decimal, digits}
use Rattle.std.proofs.lemmas.Bool.{and_parts, ltb-true, leb-true, eqb-true, not-true, false≢true}
use Rattle.mind_base.specs.Cover.{all_below}
use Rattle.mind_base.specs.Name.{each_prints}
use Rattle.mind_base.specs.Number.{number_of}
use Rattle.mind_base.specs.declared.numbers.NumberFault.{NumberFault}

holds_at : (test : ℕ → Bool) (n : ℕ) → all_below test n ≡ true → (k : ℕ) → k < n → test k ≡ true
unfolding all_below
holds_at test zero e k lt = absurd (omega arith)
holds_at test (suc n) e k lt =
    let p = and_parts (all_below test n) (test n) e in
    below_more (λ j. test j ≡ true) n (holds_at test n p.0) p.1 k (omega arith)

abbrev is_number : ℕ → Result ℕ NumberFault → Bool
is_number n (Ok m) = eqb m n
is_number n (Err fault) = false

number_is : (n : ℕ) (read : Result ℕ NumberFault) → is_number n read ≡ true → read ≡ Ok n
number_is n (Ok m) e = ap (λ k. Ok k) (eqb-true m n e)
number_is n (Err fault) e = absurd (false≢true e)

-- what a number's digits are
pub record IsNumeral (n : ℕ) : Type 0 where
  pub some : 0 < length (decimal n)
  pub few : length (decimal n) ≤ 2
  pub prints : each_prints (decimal n) ≡ true
  pub reads : number_of (decimal n) 4294967295 ≡ Ok n
  pub leads : (ltb 1 (length (decimal n)) && eqb (get_or (decimal n) 0 0) 48) ≡ false
  pub ends : eqb (get_or (decimal n) (length (decimal n) - 1) 0) 97 ≡ false

pub numeral : (n : ℕ) → n < 64 → IsNumeral n
unfolding all_below digits
numeral n lt = record {
  some = ltb-true _ _ (holds_at (λ k. ltb 0 (length (decimal k))) 64 refl n lt);
  few = leb-true _ _ (holds_at (λ k. leb (length (decimal k)) 2) 64 refl n lt);
  prints = holds_at (λ k. each_prints (decimal k)) 64 refl n lt;
  reads = number_is n _ (holds_at (λ k. is_number k (number_of (decimal k) 4294967295)) 64 refl n lt);
  leads = not-true _ (holds_at (λ k. not (ltb 1 (length (decimal k)) && eqb (get_or (decimal k) 0 0) 48)) 64 refl n lt);
  ends = not-true _ (holds_at (λ k. not (eqb (get_or (decimal k) (length (decimal k) - 1) 0) 97)) 64 refl n lt);
}
