-- The blocks of one level: those of a block are those of its halves.
use Rattle.std.proofs.Common.{◌≡◌, ℕ, ◌+◌, ◌-◌, ◌*◌, ◌/◌, ◌<◌, ◌≤◌, ◌^◌, ◌==◌, Bool, true, false, ◌&&◌, not, nat_lt, zero, suc, refl, sym, ◌∙◌, ap, arith, subst, inl, inr, add-zero, if◌then◌else◌}
use Rattle.std.proofs.lemmas.Bool.{and_from, and_right, lt-ltb, le-ltb, eq-eqb, eqb-true, not_from_true, cases_lt, cases_Bool}
use Rattle.std.proofs.lemmas.Nat.{pow-add, pow_pos, mul-add-lt, div_below}
use Rattle.std.proofs.Math.Nat.{pow-suc}
use Rattle.mind_base.specs.Cover.{count_below, sum_below, all_below}
use Rattle.protect_table.proofs.Counting.{all_below-holds, all_below-from, all_below-same, count_below-same, count_below-none, count_below-append, sum_below-none, sum_below-add}

-- block j of size 2 ^ k is of one level
unfoldable pub uniform : (ℕ → ℕ) → ℕ → ℕ → Bool
uniform f k j = all_below (λ n. f (j * 2 ^ k + n) == f (j * 2 ^ k)) (2 ^ k)

-- it is one of the cover of the 2 ^ top pages
unfoldable pub in_cover : (ℕ → ℕ) → ℕ → ℕ → ℕ → Bool
in_cover f top k j = uniform f k j && nat_lt 0 (f (j * 2 ^ k)) && not (nat_lt k top && uniform f (k + 1) (j / 2))

-- how many there are
unfoldable pub cover : (ℕ → ℕ) → ℕ → ℕ
cover f top = sum_below (λ k. count_below (in_cover f top k) (2 ^ (top - k))) (suc top)

pub two_halves : (k : ℕ) → 2 ^ suc k ≡ 2 ^ k + 2 ^ k
two_halves k = rw pow-suc (omega arith)

-- a page of block j of size 2 ^ k is one of the 2 ^ top pages
pub in_top : (top k j n : ℕ) → k ≤ top → j < 2 ^ (top - k) → n < 2 ^ k → j * 2 ^ k + n < 2 ^ top
in_top top k j n le lt below =
    let p = mul-add-lt j (2 ^ k) n (2 ^ (top - k)) lt below in
    let e : 2 ^ k * 2 ^ (top - k) ≡ 2 ^ top = sym (pow-add 2 k (top - k)) ∙ ap (λ m. 2 ^ m) (omega arith) in
    omega (arith, p, e)

-- where block j is one of the 2 ^ top pages', so is its parent
pub parent_in : (top k j : ℕ) → k < top → j < 2 ^ (top - k) → j / 2 < 2 ^ (top - (k + 1))
parent_in top k j lt below =
    let e : 2 ^ (top - k) ≡ 2 ^ suc (top - (k + 1)) = ap (λ m. 2 ^ m) (omega arith) in
    div_below j 2 (2 ^ (top - (k + 1))) (omega arith) (omega (arith, e, two_halves (top - (k + 1))))

pub uniform-from : (f : ℕ → ℕ) (k j : ℕ) → ((n : ℕ) → n < 2 ^ k → f (j * 2 ^ k + n) ≡ f (j * 2 ^ k)) → uniform f k j ≡ true
unfolding uniform
uniform-from f k j h = all_below-from _ (2 ^ k) (λ n l. eq-eqb _ _ (h n l))

pub uniform-holds : (f : ℕ → ℕ) (k j : ℕ) → uniform f k j ≡ true → (n : ℕ) → n < 2 ^ k → f (j * 2 ^ k + n) ≡ f (j * 2 ^ k)
unfolding uniform
uniform-holds f k j e n l = eqb-true _ _ (all_below-holds (λ m. f (j * 2 ^ k + m) == f (j * 2 ^ k)) (2 ^ k) e n l)

pub first-same : (f g : ℕ → ℕ) (k j i : ℕ) → ((n : ℕ) → n < 2 ^ k → f (j * 2 ^ k + n) ≡ g (i * 2 ^ k + n)) → f (j * 2 ^ k) ≡ g (i * 2 ^ k)
first-same f g k j i h =
    let e = h 0 (pow_pos k) in
    ap f (sym (add-zero (j * 2 ^ k))) ∙ (e ∙ ap g (add-zero (i * 2 ^ k)))

pub uniform-same : (f g : ℕ → ℕ) (k j i : ℕ) → ((n : ℕ) → n < 2 ^ k → f (j * 2 ^ k + n) ≡ g (i * 2 ^ k + n)) → uniform f k j ≡ uniform g k i
unfolding uniform
uniform-same f g k j i h =
    all_below-same _ _ (2 ^ k) (λ n l. let a = h n l in let b = first-same f g k j i h in rw (a, b) refl)

count_below-one : (test : ℕ → Bool) → count_below test 1 ≡ (if test 0 then 1 else 0)
unfolding count_below
count_below-one test = omega arith

-- one block that is all the pages
count-top : (f : ℕ → ℕ) (top : ℕ) (u : Bool) → uniform f top 0 ≡ u → count_below (in_cover f top top) (2 ^ (top - top)) ≡ (if (u && nat_lt 0 (f 0)) then 1 else 0)
unfolding in_cover
count-top f top u e =
    let d : top - top ≡ 0 = omega arith in
    let s : 2 ^ (top - top) ≡ 1 = rw d refl in
    let z : f (0 * 2 ^ top) ≡ f 0 = ap f (omega arith) in
    let l : nat_lt top top ≡ false = le-ltb top top (omega arith) in
    rw s (count_below-one (in_cover f top top) ∙ rw (e, z, l) (elim (u && nat_lt 0 (f 0)) as (λ b. ◌≡◌ {A = ℕ} (if (b && true) then 1 else 0) (if b then 1 else 0)) [ true ↦ refl | false ↦ refl ]))

-- pages of one level are one block, if the level is not 0
pub cover-whole : (f : ℕ → ℕ) (top : ℕ) → ((n : ℕ) → n < 2 ^ top → f n ≡ f 0) → cover f top ≡ (if nat_lt 0 (f 0) then 1 else 0)
unfolding cover sum_below in_cover
cover-whole f top h =
    let below = sum_below-none (λ k. count_below (in_cover f top k) (2 ^ (top - k))) top (λ k lt.
    count_below-none (in_cover f top k) (2 ^ (top - k)) (λ j within.
    let parent : j / 2 < 2 ^ (top - (k + 1)) = parent_in top k j lt within in
    let le : k + 1 ≤ top = omega arith in
    let start : j / 2 * 2 ^ (k + 1) < 2 ^ top = omega (arith, in_top top (k + 1) (j / 2) 0 le parent (pow_pos (k + 1))) in
    and_right _ _ (not_from_true _ (and_from _ _ (lt-ltb k top lt)
    (uniform-from f (k + 1) (j / 2) (λ n l. h _ (in_top top (k + 1) (j / 2) n le parent l) ∙ sym (h _ start))))))) in
    let one = count-top f top true (uniform-from f top 0 (λ n l. h _ (omega arith) ∙ sym (h _ (omega (arith, pow_pos top))))) in
    omega (arith, below, one)

-- block j of the lower half of twice as many pages is block j of those
lower-same : (f : ℕ → ℕ) (top k j : ℕ) → uniform f (suc top) 0 ≡ false → k ≤ top → j < 2 ^ (top - k) → in_cover f (suc top) k j ≡ in_cover f top k j
unfolding in_cover
lower-same f top k j mixed le within =
    let here : nat_lt k (suc top) ≡ true = lt-ltb k (suc top) (omega arith) in
    elim (cases_lt k top) [
      | inl lt ↦ let there = lt-ltb k top lt in rw (here, there) refl
      | inr ge ↦
          let same : k ≡ top = omega arith in
          let d : top - k ≡ 0 = omega arith in
          let one : j < 1 = subst (λ m. j < 2 ^ m) d within in
          let up : k + 1 ≡ suc top = omega arith in
          let zero_th : j / 2 ≡ 0 = omega arith in
          let there = le-ltb k top ge in
          rw (here, there, up, zero_th, mixed) refl
    ]

shift_index : (top k j n : ℕ) → k ≤ top → (2 ^ (top - k) + j) * 2 ^ k + n ≡ 2 ^ top + (j * 2 ^ k + n)
shift_index top k j n le =
    let s : (top - k) + k ≡ top = omega arith in
    let e : 2 ^ (top - k) * 2 ^ k ≡ 2 ^ top = sym (pow-add 2 (top - k) k) ∙ rw s refl in
    omega (arith, e)

-- block j of the upper half is block j of the pages that stand there
upper-same : (f : ℕ → ℕ) (top k j : ℕ) → uniform f (suc top) 0 ≡ false → k ≤ top → j < 2 ^ (top - k) → in_cover f (suc top) k (2 ^ (top - k) + j) ≡ in_cover (λ n. f (2 ^ top + n)) top k j
unfolding in_cover
upper-same f top k j mixed le within =
    let g : ℕ → ℕ = λ n. f (2 ^ top + n) in
    let here : nat_lt k (suc top) ≡ true = lt-ltb k (suc top) (omega arith) in
    let pages : (n : ℕ) → n < 2 ^ k → f ((2 ^ (top - k) + j) * 2 ^ k + n) ≡ g (j * 2 ^ k + n) = λ n l. ap f (shift_index top k j n le) in
    let u = uniform-same f g k (2 ^ (top - k) + j) j pages in
    let v = first-same f g k (2 ^ (top - k) + j) j pages in
    elim (cases_lt k top) [
      | inl lt ↦
          let there = lt-ltb k top lt in
          let t : top - k ≡ suc (top - (k + 1)) = omega arith in
          let e : 2 ^ (top - k) ≡ 2 ^ suc (top - (k + 1)) = rw t refl in
          let half : (2 ^ (top - k) + j) / 2 ≡ 2 ^ (top - (k + 1)) + j / 2 = omega (arith, e, two_halves (top - (k + 1))) in
          let le' : k + 1 ≤ top = omega arith in
          let w = uniform-same f g (k + 1) (2 ^ (top - (k + 1)) + j / 2) (j / 2) (λ n l. ap f (shift_index top (k + 1) (j / 2) n le')) in
          rw (u, v, here, there, half, w) refl
      | inr ge ↦
          let d : top - k ≡ 0 = omega arith in
          let p : 2 ^ (top - k) ≡ 1 = rw d refl in
          let up : k + 1 ≡ suc top = omega arith in
          let zero_th : (2 ^ (top - k) + j) / 2 ≡ 0 = omega arith in
          let there = le-ltb k top ge in
          rw (u, v, here, there, up, zero_th, mixed) refl
    ]

-- pages that are not one block: their cover is that of the lower half and that of the upper half
pub cover-halves : (f : ℕ → ℕ) (top : ℕ) → uniform f (suc top) 0 ≡ false → cover f (suc top) ≡ cover f top + cover (λ n. f (2 ^ top + n)) top
unfolding cover sum_below
cover-halves f top mixed =
    let g : ℕ → ℕ = λ n. f (2 ^ top + n) in
    let none = count-top f (suc top) false mixed in
    let each = sum_below-add (λ k. count_below (in_cover f (suc top) k) (2 ^ (suc top - k))) (λ k. count_below (in_cover f top k) (2 ^ (top - k))) (λ k. count_below (in_cover g top k) (2 ^ (top - k))) (suc top) (λ k lt.
    let le : k ≤ top = omega arith in
    let s : suc top - k ≡ suc (top - k) = omega arith in
    let low = count_below-same (in_cover f (suc top) k) (in_cover f top k) (2 ^ (top - k)) (λ j within. lower-same f top k j mixed le within) in
    let high = count_below-same (λ j. in_cover f (suc top) k (2 ^ (top - k) + j)) (in_cover g top k) (2 ^ (top - k)) (λ j within. upper-same f top k j mixed le within) in
    let parts = count_below-append (in_cover f (suc top) k) (2 ^ (top - k)) (2 ^ (top - k)) in
    rw (s, two_halves) (parts ∙ (rw (low, high) refl))) in
    omega (arith, none, each)

one-most : (b : Bool) → (if b then 1 else 0) ≤ 1
one-most true = omega arith
one-most false = omega arith

-- there are at most as many blocks as pages
pub cover-most : (f : ℕ → ℕ) (top : ℕ) → cover f top ≤ 2 ^ top
cover-most f zero = omega (arith, cover-whole f 0 (λ n lt. ap f (omega arith)), one-most (nat_lt 0 (f 0)))
cover-most f (suc top) = elim (cases_Bool (uniform f (suc top) 0)) [
  | inl e ↦
      let z : f (0 * 2 ^ suc top) ≡ f 0 = ap f (omega arith) in
      let all : (n : ℕ) → n < 2 ^ suc top → f n ≡ f 0 = λ n lt.
      let w : f (0 * 2 ^ suc top + n) ≡ f n = ap f (omega arith) in
      sym w ∙ (uniform-holds f (suc top) 0 e n lt ∙ z) in
      omega (arith, cover-whole f (suc top) all, one-most (nat_lt 0 (f 0)), pow_pos (suc top))
  | inr e ↦ omega (arith, cover-halves f top e, cover-most f top, cover-most (λ n. f (2 ^ top + n)) top, two_halves top)
]
