-- Arithmetic of aligned blocks: what holds of a size is shown at each of the ten sizes.
use Rattle.std.proofs.Common.{◌≡◌, ℕ, ◌+◌, ◌-◌, ◌*◌, ◌<◌, ◌≤◌, ◌%◌, ◌^◌, suc, zero, arith, refl}

-- what holds at 0 to 9 holds of each number up to 9
pub up_to_nine : (P : ℕ → Type 0) → P 0 → P 1 → P 2 → P 3 → P 4 → P 5 → P 6 → P 7 → P 8 → P 9 → (k : ℕ) → k ≤ 9 → P k
up_to_nine P a b c d e f g h i j zero le = a
up_to_nine P a b c d e f g h i j (suc zero) le = b
up_to_nine P a b c d e f g h i j (suc (suc zero)) le = c
up_to_nine P a b c d e f g h i j (suc (suc (suc zero))) le = d
up_to_nine P a b c d e f g h i j (suc (suc (suc (suc zero)))) le = e
up_to_nine P a b c d e f g h i j (suc (suc (suc (suc (suc zero))))) le = f
up_to_nine P a b c d e f g h i j (suc (suc (suc (suc (suc (suc zero)))))) le = g
up_to_nine P a b c d e f g h i j (suc (suc (suc (suc (suc (suc (suc zero))))))) le = h
up_to_nine P a b c d e f g h i j (suc (suc (suc (suc (suc (suc (suc (suc zero)))))))) le = i
up_to_nine P a b c d e f g h i j (suc (suc (suc (suc (suc (suc (suc (suc (suc zero))))))))) le = j
up_to_nine P a b c d e f g h i j (suc (suc (suc (suc (suc (suc (suc (suc (suc (suc k)))))))))) le = absurd (omega arith)

-- the lower half of a block is a block
abbrev LowerFits : ℕ → Type 0
LowerFits l = (b : ℕ) → (l ≡ 0 → ⊥) → b % 2 ^ l ≡ 0 → b % 2 ^ (l - 1) ≡ 0

pub lower-fits : (l : ℕ) → l ≤ 9 → LowerFits l
lower-fits = up_to_nine LowerFits (λ b p e. absurd (p refl)) (λ b p e. omega arith) (λ b p e. omega arith) (λ b p e. omega arith) (λ b p e. omega arith) (λ b p e. omega arith) (λ b p e. omega arith) (λ b p e. omega arith) (λ b p e. omega arith) (λ b p e. omega arith)

-- so is the upper half
abbrev UpperFits : ℕ → Type 0
UpperFits l = (b : ℕ) → (l ≡ 0 → ⊥) → b < 1048576 → b % 2 ^ l ≡ 0
    → (b + 1 * 2 ^ (l - 1) % 4294967296 < 1048576) × ((b + 1 * 2 ^ (l - 1) % 4294967296) % 2 ^ (l - 1) ≡ 0)

pub upper-fits : (l : ℕ) → l ≤ 9 → UpperFits l
upper-fits = up_to_nine UpperFits (λ b p h e. absurd (p refl)) (λ b p h e. (omega arith, omega arith)) (λ b p h e. (omega arith, omega arith)) (λ b p h e. (omega arith, omega arith)) (λ b p h e. (omega arith, omega arith)) (λ b p h e. (omega arith, omega arith)) (λ b p h e. (omega arith, omega arith)) (λ b p h e. (omega arith, omega arith)) (λ b p h e. (omega arith, omega arith)) (λ b p h e. (omega arith, omega arith))

-- and what is left of a page number when its remainder is taken off
abbrev ParentFits : ℕ → Type 0
ParentFits l = (b : ℕ) → (b - b % (1 * 2 ^ (l + 1) % 4294967296)) % 2 ^ (l + 1) ≡ 0

pub parent-fits : (l : ℕ) → l ≤ 9 → ParentFits l
parent-fits = up_to_nine ParentFits (λ b. omega arith) (λ b. omega arith) (λ b. omega arith) (λ b. omega arith) (λ b. omega arith) (λ b. omega arith) (λ b. omega arith) (λ b. omega arith) (λ b. omega arith) (λ b. omega arith)
