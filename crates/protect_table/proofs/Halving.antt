-- A block kept by halves: what it counts, and what a change of pages makes of it.
use Rattle.std.proofs.Common.{◌≡◌, ℕ, ◌+◌, ◌-◌, ◌*◌, ◌<◌, ◌≤◌, ◌^◌, Bool, true, false, nat_lt, zero, suc, refl, sym, ◌∙◌, ap, arith, subst, inl, inr, ◌⊎◌, Option, Some, None, if◌then◌else◌}
use Rattle.std.proofs.lemmas.Bool.{and_parts, and_from, and_left, and_right, or_cases, or_parts, lt-ltb, le-ltb, le-leb, lt-leb, leb-true, leb-false, eq-eqb, eqb-true, both_ways, false_from_ne_true, cases_lt, cases_Bool}
use Rattle.std.proofs.lemmas.Nat.{pow_pos}
use Rattle.std.proofs.Math.Pow.{pow_mono}
use Rattle.mind_base.specs.Cover.{level}
use Rattle.mind_base.specs.declared.commands.Perm.{Perm}
use Rattle.mind_base.specs.declared.commands.Perm.TheVariants.{No, R, Rw}
use Rattle.protect_table.specs.declared.blocks.Sought.{Sought}
use Rattle.protect_table.specs.Block.{BlockView, whole, halves, permission_in, blocks_in, whole_of, is_same, IsHalved, lower_of, upper_of, joined, lies_apart, lies_inside, is_among, block_set, tally_of, joined_tally, first_in}
use Rattle.protect_table.proofs.Uniform.{uniform, cover, uniform-holds, cover-whole, cover-halves, two_halves}

level-same : (p q : Perm) → level p ≡ level q → p ≡ q
level-same No No e = refl
level-same No R e = absurd (omega arith)
level-same No Rw e = absurd (omega arith)
level-same R No e = absurd (omega arith)
level-same R R e = refl
level-same R Rw e = absurd (omega arith)
level-same Rw No e = absurd (omega arith)
level-same Rw R e = absurd (omega arith)
level-same Rw Rw e = refl

-- the pages of the lower and of the upper half
pub lower-page : (l u : BlockView) (k n : ℕ) → n < 2 ^ (k - 1) → permission_in (halves l u) k n ≡ permission_in l (k - 1) n
lower-page l u k n lt = let e = lt-ltb n (2 ^ (k - 1)) lt in rw e refl

pub upper-page : (l u : BlockView) (k n : ℕ) → permission_in (halves l u) k (2 ^ (k - 1) + n) ≡ permission_in u (k - 1) n
upper-page l u k n =
    let e = le-ltb (2 ^ (k - 1) + n) (2 ^ (k - 1)) (omega arith) in
    let s : 2 ^ (k - 1) + n - 2 ^ (k - 1) ≡ n = omega arith in
    rw (e, s) refl

pub sizes : (k : ℕ) → 0 < k → 2 ^ k ≡ 2 ^ (k - 1) + 2 ^ (k - 1)
sizes k some = let e : k ≡ suc (k - 1) = omega arith in (let p : 2 ^ k ≡ 2 ^ suc (k - 1) = ap (λ m. 2 ^ m) e in p ∙ two_halves (k - 1))

not_some : (p : Perm) → ◌≡◌ {A = Option Perm} None (Some p) → ⊥
not_some p e = cc

-- f is the level of each page of the block
abbrev Levels : (ℕ → ℕ) → BlockView → ℕ → Type 0
Levels f block k = (n : ℕ) → n < 2 ^ k → f n ≡ level (permission_in block k n)

lower-levels : (f : ℕ → ℕ) (l u : BlockView) (k : ℕ) → 0 < k → Levels f (halves l u) k → Levels f l (k - 1)
lower-levels f l u k some h n lt = h n (omega (arith, sizes k some)) ∙ ap level (lower-page l u k n lt)

upper-levels : (f : ℕ → ℕ) (l u : BlockView) (k : ℕ) → 0 < k → Levels f (halves l u) k → Levels (λ n. f (2 ^ (k - 1) + n)) u (k - 1)
upper-levels f l u k some h n lt = h (2 ^ (k - 1) + n) (omega (arith, sizes k some)) ∙ ap level (upper-page l u k n)

-- a block of one level is kept as one permission
kept_whole : (block : BlockView) (k : ℕ) (f : ℕ → ℕ) → IsHalved block k → Levels f block k → ((n : ℕ) → n < 2 ^ k → f n ≡ f 0) → (p : Perm) × ((whole_of block ≡ Some p) × (level p ≡ f 0))
kept_whole (whole p) k f s h same = (p, (refl, sym (h 0 (pow_pos k))))
kept_whole (halves l u) k f s h same =
    let z = sizes k s.0 in
    let g : ℕ → ℕ = λ n. f (2 ^ (k - 1) + n) in
    let start : g 0 ≡ f 0 = same _ (omega (arith, z, pow_pos (k - 1))) in
    let a = kept_whole l (k - 1) f s.1.1.0 (lower-levels f l u k s.0 h) (λ n lt. same n (omega (arith, z))) in
    let b = kept_whole u (k - 1) g s.1.1.1 (upper-levels f l u k s.0 h) (λ n lt. same _ (omega (arith, z)) ∙ sym start) in
    let one : is_same (whole_of l) (whole_of u) ≡ true = rw (a.1.0, b.1.0) (eq-eqb _ _ (a.1.1 ∙ (sym start ∙ sym b.1.1))) in
    absurd (both_ways _ s.1.0 one)

-- the cover of its pages is the number of its blocks
pub cover-block : (block : BlockView) (k : ℕ) (f : ℕ → ℕ) → IsHalved block k → Levels f block k → cover f k ≡ blocks_in block
cover-block (whole p) k f s h =
    let e = h 0 (pow_pos k) in
    cover-whole f k (λ n lt. h n lt ∙ sym e) ∙ rw e refl
cover-block (halves l u) k f s h =
    let z = sizes k s.0 in
    let up : k ≡ suc (k - 1) = omega arith in
    let mixed : uniform f (suc (k - 1)) 0 ≡ false = false_from_ne_true _ (λ e.
    let all = uniform-holds f (suc (k - 1)) 0 e in
    let first : f (0 * 2 ^ suc (k - 1)) ≡ f 0 = ap f (omega arith) in
    let same : (n : ℕ) → n < 2 ^ k → f n ≡ f 0 = λ n lt.
    let w : f (0 * 2 ^ suc (k - 1) + n) ≡ f n = ap f (omega arith) in
    sym w ∙ (all n (omega (arith, z, two_halves (k - 1))) ∙ first) in
    let kept = kept_whole (halves l u) k f s h same in
    not_some kept.0 kept.1.0) in
    let a = cover-block l (k - 1) f s.1.1.0 (lower-levels f l u k s.0 h) in
    let b = cover-block u (k - 1) (λ n. f (2 ^ (k - 1) + n)) s.1.1.1 (upper-levels f l u k s.0 h) in
    ap (cover f) up ∙ (cover-halves f (k - 1) mixed ∙ rw (a, b) refl)

pub blocks_in-le : (block : BlockView) (k : ℕ) → IsHalved block k → blocks_in block ≤ 2 ^ k
blocks_in-le (whole No) k s = omega arith
blocks_in-le (whole R) k s = omega (arith, pow_pos k)
blocks_in-le (whole Rw) k s = omega (arith, pow_pos k)
blocks_in-le (halves l u) k s =
    omega (arith, sizes k s.0, blocks_in-le l (k - 1) s.1.1.0, blocks_in-le u (k - 1) s.1.1.1)

both_whole : (l u : BlockView) → is_same (whole_of l) (whole_of u) ≡ true → (p : Perm) × ((l ≡ whole p) × (u ≡ whole p))
both_whole (whole p) (whole q) e = (p, (refl, ap whole (sym (level-same p q (eqb-true _ _ e)))))
both_whole (whole p) (halves a b) e = absurd (both_ways false refl e)
both_whole (halves a b) u e = absurd (both_ways false refl e)

pick-same : (b : Bool) (p : Perm) → (if b then p else p) ≡ p
pick-same true p = refl
pick-same false p = refl

one_permission : (l u : BlockView) (p : Perm) (k n : ℕ) → l ≡ whole p → u ≡ whole p → permission_in l k n ≡ (if nat_lt n (2 ^ (k - 1)) then permission_in l (k - 1) n else permission_in u (k - 1) (n - 2 ^ (k - 1)))
one_permission l u p k n a b = rw (a, b) (sym (pick-same (nat_lt n (2 ^ (k - 1))) p))

-- the pages of a block that is made of two halves
permission_in-joined : (l u : BlockView) (k n : ℕ) → permission_in (joined l u) k n ≡ (if nat_lt n (2 ^ (k - 1)) then permission_in l (k - 1) n else permission_in u (k - 1) (n - 2 ^ (k - 1)))
permission_in-joined l u k n = elim (cases_Bool (is_same (whole_of l) (whole_of u))) [
  | inl e ↦
      let w = both_whole l u e in
      rw e (one_permission l u w.0 k n w.1.0 w.1.1)
  | inr e ↦ rw e refl
]

permission_in-parts : (block : BlockView) (k n : ℕ) → permission_in block k n ≡ (if nat_lt n (2 ^ (k - 1)) then permission_in (lower_of block) (k - 1) n else permission_in (upper_of block) (k - 1) (n - 2 ^ (k - 1)))
permission_in-parts (whole p) k n = sym (pick-same (nat_lt n (2 ^ (k - 1))) p)
permission_in-parts (halves l u) k n = refl

pub IsHalved-lower : (block : BlockView) (k : ℕ) → IsHalved block k → IsHalved (lower_of block) (k - 1)
IsHalved-lower (whole p) k s = tt
IsHalved-lower (halves l u) k s = s.1.1.0

pub IsHalved-upper : (block : BlockView) (k : ℕ) → IsHalved block k → IsHalved (upper_of block) (k - 1)
IsHalved-upper (whole p) k s = tt
IsHalved-upper (halves l u) k s = s.1.1.1

IsHalved-joined : (l u : BlockView) (k : ℕ) → 0 < k → IsHalved l (k - 1) → IsHalved u (k - 1) → IsHalved (joined l u) k
IsHalved-joined l u k some a b = elim (cases_Bool (is_same (whole_of l) (whole_of u))) [
  | inl e ↦ let w = both_whole l u e in rw e (subst (λ b. IsHalved b k) (sym w.1.0) tt)
  | inr e ↦ rw e (some, (e, (a, b)))
]

apart-true : (size from to : ℕ) → lies_apart size from to ≡ true → (size ≤ from) ⊎ (to ≤ from)
apart-true size from to e = elim (or_cases _ _ e) [ inl a ↦ inl (leb-true size from a) | inr b ↦ inr (leb-true to from b) ]

pub apart-false : (size from to : ℕ) → lies_apart size from to ≡ false → (from < size) × (from < to)
apart-false size from to e = let p = or_parts _ _ e in (leb-false size from p.0, leb-false to from p.1)

inside-true : (size from to : ℕ) → lies_inside size from to ≡ true → (from ≡ 0) × (size ≤ to)
inside-true size from to e = let p = and_parts _ _ e in (eqb-true from 0 p.0, leb-true size to p.1)

pub among-in : (from to n : ℕ) → from ≤ n → n < to → is_among from to n ≡ true
among-in from to n a b = and_from _ _ (le-leb from n a) (lt-ltb n to b)

among-low : (from to n : ℕ) → n < from → is_among from to n ≡ false
among-low from to n a = and_left _ _ (lt-leb from n a)

among-high : (from to n : ℕ) → to ≤ n → is_among from to n ≡ false
among-high from to n a = and_right _ _ (le-ltb n to a)

pub apart-among : (size from to n : ℕ) → n < size → lies_apart size from to ≡ true → is_among from to n ≡ false
apart-among size from to n lt e = elim (apart-true size from to e) [
  | inl a ↦ among-low from to n (omega arith)
  | inr b ↦ elim (cases_lt n from) [ inl low ↦ among-low from to n low | inr high ↦ among-high from to n (omega arith) ]
]

among-shift : (from to half n : ℕ) → half ≤ n → is_among (from - half) (to - half) (n - half) ≡ is_among from to n
among-shift from to half n le = elim (cases_lt n from) [
  | inl low ↦ among-low (from - half) (to - half) (n - half) (omega arith) ∙ sym (among-low from to n low)
  | inr high ↦ elim (cases_lt n to) [
    | inl below ↦ among-in (from - half) (to - half) (n - half) (omega arith) (omega arith) ∙ sym (among-in from to n high below)
    | inr past ↦ among-high (from - half) (to - half) (n - half) (omega arith) ∙ sym (among-high from to n past)
  ]
]

-- the pages of a block after a change
pub permission_in-set : (k : ℕ) (block : BlockView) (from to : ℕ) (perm : Perm) (n : ℕ) → n < 2 ^ k → permission_in (block_set k block from to perm) k n ≡ (if is_among from to n then perm else permission_in block k n)
unfolding block_set
permission_in-set zero block from to perm n lt = elim (cases_Bool (lies_apart 1 from to)) [
  | inl e ↦ let m = apart-among 1 from to n lt e in rw (e, m) refl
  | inr e ↦
      let a = apart-false 1 from to e in
      let m = among-in from to n (omega arith) (omega arith) in
      rw (e, m) refl
]
permission_in-set (suc k) block from to perm n lt = elim (cases_Bool (lies_apart (2 ^ suc k) from to)) [
  | inl e ↦ let m = apart-among (2 ^ suc k) from to n lt e in rw (e, m) refl
  | inr e ↦ elim (cases_Bool (lies_inside (2 ^ suc k) from to)) [
    | inl i ↦
        let a = inside-true (2 ^ suc k) from to i in
        let m = among-in from to n (omega arith) (omega arith) in
        rw (e, i, m) refl
    | inr i ↦
        let half : suc k - 1 ≡ k = omega arith in
        let j = permission_in-joined (block_set k (lower_of block) from to perm) (block_set k (upper_of block) (from - 2 ^ k) (to - 2 ^ k) perm) (suc k) n in
        let b = permission_in-parts block (suc k) n in
        rw (e, i, j, b, half) (elim (cases_lt n (2 ^ k)) [
          | inl low ↦
              let t = lt-ltb n (2 ^ k) low in
              let r = permission_in-set k (lower_of block) from to perm n low in
              rw t (rw r refl)
          | inr high ↦
              let t = le-ltb n (2 ^ k) high in
              let r = permission_in-set k (upper_of block) (from - 2 ^ k) (to - 2 ^ k) perm (n - 2 ^ k) (omega (arith, two_halves k)) in
              let m = among-shift from to (2 ^ k) n high in
              rw t (rw (r, m) refl)
        ])
  ]
]

pub IsHalved-set : (k : ℕ) (block : BlockView) (from to : ℕ) (perm : Perm) → IsHalved block k → IsHalved (block_set k block from to perm) k
unfolding block_set
IsHalved-set zero block from to perm s = elim (cases_Bool (lies_apart 1 from to)) [ inl e ↦ rw e s | inr e ↦ rw e tt ]
IsHalved-set (suc k) block from to perm s = elim (cases_Bool (lies_apart (2 ^ suc k) from to)) [
  | inl e ↦ rw e s
  | inr e ↦ elim (cases_Bool (lies_inside (2 ^ suc k) from to)) [
    | inl i ↦ rw (e, i) tt
    | inr i ↦
        let half : suc k - 1 ≡ k = omega arith in
        let low : IsHalved (lower_of block) k = subst (IsHalved (lower_of block)) half (IsHalved-lower block (suc k) s) in
        let high : IsHalved (upper_of block) k = subst (IsHalved (upper_of block)) half (IsHalved-upper block (suc k) s) in
        let a = IsHalved-set k (lower_of block) from to perm low in
        let b = IsHalved-set k (upper_of block) (from - 2 ^ k) (to - 2 ^ k) perm high in
        rw (e, i) (IsHalved-joined _ _ (suc k) (omega arith) (subst (IsHalved _) (sym half) a) (subst (IsHalved _) (sym half) b))
  ]
]

-- one step of a change
pub set_in-apart : (k : ℕ) (block : BlockView) (from to : ℕ) (perm : Perm) → lies_apart (2 ^ k) from to ≡ true → block_set k block from to perm ≡ block
unfolding block_set
set_in-apart zero block from to perm e = rw e refl
set_in-apart (suc k) block from to perm e = rw e refl

pub set_in-inside : (k : ℕ) (block : BlockView) (from to : ℕ) (perm : Perm) → lies_apart (2 ^ k) from to ≡ false → lies_inside (2 ^ k) from to ≡ true → block_set k block from to perm ≡ whole perm
unfolding block_set
set_in-inside zero block from to perm e i = rw e refl
set_in-inside (suc k) block from to perm e i = rw (e, i) refl

pub set_in-some : (k from to : ℕ) → lies_apart (2 ^ k) from to ≡ false → lies_inside (2 ^ k) from to ≡ false → 0 < k
set_in-some zero from to e i =
    let a = apart-false 1 from to e in
    absurd (both_ways (lies_inside 1 from to) i (and_from _ _ (eq-eqb from 0 (omega arith)) (le-leb 1 to (omega arith))))
set_in-some (suc k) from to e i = omega arith

pub set_in-split : (k : ℕ) (block : BlockView) (from to : ℕ) (perm : Perm) → lies_apart (2 ^ k) from to ≡ false → lies_inside (2 ^ k) from to ≡ false → block_set k block from to perm ≡ joined (block_set (k - 1) (lower_of block) from to perm) (block_set (k - 1) (upper_of block) (from - 2 ^ (k - 1)) (to - 2 ^ (k - 1)) perm)
unfolding block_set
set_in-split zero block from to perm e i = absurd (omega (arith, set_in-some 0 from to e i))
set_in-split (suc k) block from to perm e i = let half : suc k - 1 ≡ k = omega arith in rw (e, i, half) refl

pub tally_of-joined : (l u : BlockView) → tally_of (joined l u) ≡ joined_tally (tally_of l) (tally_of u)
tally_of-joined l u = elim (cases_Bool (is_same (whole_of l) (whole_of u))) [ inl e ↦ rw e refl | inr e ↦ rw e refl ]

pub pow_most : (k : ℕ) → k ≤ 20 → 2 ^ k ≤ 1048576
pow_most k le = pow_mono le

pub first_in-apart : (sought : Sought) (block : BlockView) (k from to : ℕ) → lies_apart (2 ^ k) from to ≡ true → first_in sought block k from to ≡ None
first_in-apart sought (whole p) k from to e = rw e refl
first_in-apart sought (halves l u) k from to e = rw e refl
