-- Of the numbers in a row, those that are not in a window.
use Rattle.std.proofs.Common.{◌≡◌, ℕ, zero, suc, ◌+◌, ◌-◌, ◌<◌, ◌≤◌, Bool, true, false, List, [], ◌∷◌, ◌++◌, length, take, refl, subst, sym, ap, ◌∙◌, arith, append-nil, length-append}
use Rattle.std.specs.Prelude.{filter, not, if◌then◌else◌}
use Rattle.std.specs.List.{range_with_len}
use Rattle.std.proofs.lemmas.List.{take-append-le, take_all}
use Rattle.std.proofs.lemmas.List.Elements.{filter-append}
use Rattle.link_retry.specs.declared.windows.Window.{Window}
use Rattle.link_retry.specs.Window.{has, gaps}

range-parts : (a m n : ℕ) → range_with_len a (m + n) ≡ range_with_len a m ++ range_with_len (a + m) n
range-parts a zero n =
    let all : 0 + n ≡ n = omega arith in
    let same : a ≡ a + 0 = omega arith in
    ap (range_with_len a) all ∙ ap (λ (x : ℕ). range_with_len x n) same
range-parts a (suc m) n =
    let first : suc m + n ≡ suc (m + n) = omega arith in
    let place : a + 1 + m ≡ a + suc m = omega arith in
    ap (range_with_len a) first ∙ ap (λ (xs : List ℕ). a ∷ xs) (range-parts (a + 1) m n) ∙ ap (λ (x : ℕ). a ∷ (range_with_len (a + 1) m ++ range_with_len x n)) place

-- the gaps of so many numbers, and those behind them
gaps-parts : (window : Window) (m n : ℕ) → gaps window (m + n) ≡ gaps window m ++ filter (λ number. not (has window number)) (range_with_len (window.base + m) n)
gaps-parts window m n =
    ap (filter (λ number. not (has window number))) (range-parts window.base m n)
    ∙ filter-append (λ number. not (has window number)) (range_with_len window.base m) (range_with_len (window.base + m) n)

one : (window : Window) (number : ℕ) → filter (λ n. not (has window n)) (range_with_len number 1) ≡ (if not (has window number) then number ∷ [] else [])
one window number = refl

next-of : (window : Window) (number : ℕ) → window.base ≤ number → gaps window (number + 1 - window.base) ≡ gaps window (number - window.base) ++ (if not (has window number) then number ∷ [] else [])
next-of window number from =
    let more : number + 1 - window.base ≡ (number - window.base) + 1 = omega arith in
    let place : window.base + (number - window.base) ≡ number = omega arith in
    ap (gaps window) more ∙ gaps-parts window (number - window.base) 1
    ∙ ap (λ (n : ℕ). gaps window (number - window.base) ++ filter (λ number. not (has window number)) (range_with_len n 1)) place

-- the next number is not in it
pub gap-next : (window : Window) (number : ℕ) → window.base ≤ number → has window number ≡ false → gaps window (number + 1 - window.base) ≡ gaps window (number - window.base) ++ number ∷ []
gap-next window number from is = next-of window number from ∙ ap (λ (b : Bool). gaps window (number - window.base) ++ (if not b then number ∷ [] else [])) is

-- or it is
pub gap-none : (window : Window) (number : ℕ) → window.base ≤ number → has window number ≡ true → gaps window (number + 1 - window.base) ≡ gaps window (number - window.base)
gap-none window number from is =
    next-of window number from ∙ ap (λ (b : Bool). gaps window (number - window.base) ++ (if not b then number ∷ [] else [])) is ∙ append-nil (gaps window (number - window.base))

-- so many fill the wire: they are the first of all
pub filled : (window : Window) (old wire : List ℕ) (passed count : ℕ) → passed ≤ count → length old ≤ 64 → wire ≡ old ++ gaps window passed → length wire ≡ 64 → wire ≡ old ++ take (64 - length old) (gaps window count)
filled window old wire passed count within fits put full =
    let whole : length (gaps window passed) ≡ 64 - length old = omega (arith, ap length put, length-append old (gaps window passed)) in
    let sum : passed + (count - passed) ≡ count = omega arith in
    put ∙ ap (λ (xs : List ℕ). old ++ xs)
    (sym (take_all (64 - length old) (gaps window passed) (omega arith))
    ∙ sym (take-append-le (64 - length old) (gaps window passed) (filter (λ number. not (has window number)) (range_with_len (window.base + passed) (count - passed))) (omega arith))
    ∙ ap (take (64 - length old)) (sym (gaps-parts window passed (count - passed)) ∙ ap (gaps window) sum))
