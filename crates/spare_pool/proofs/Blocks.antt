-- A run at a multiple of its size is one block of that size, and no block lies between.
use Rattle.std.proofs.Common.{◌≡◌, ℕ, ◌+◌, ◌*◌, ◌/◌, ◌%◌, ◌<◌, ◌≤◌, Bool, List, length, subst, arith}
use Rattle.std.proofs.Math.Nat.{div-lt_iff_lt-mul, le-div_iff_mul-le}
use Rattle.spare_pool.specs.Marks.{AllMarked, IsMarkedRun}

block_of : (size first : ℕ) → 0 < size → first % size ≡ 0 → first ≡ first / size * size
block_of size first some e = omega arith

abbrev NoneBelow : List Bool → ℕ → ℕ → Type 0
NoneBelow marks size block = (k : ℕ) → k < block → AllMarked marks (k * size) size → ⊥

at_block : (marks : List Bool) (size first : ℕ) → 0 < size → IsMarkedRun marks size first → AllMarked marks (first / size * size) size
at_block marks size first some run = subst (λ (f : ℕ). AllMarked marks f size) (block_of size first some run.aligned) run.marked

-- no run stands below a block where none was found
pub no_run_below : (marks : List Bool) (size block first : ℕ) → 0 < size → NoneBelow marks size block → IsMarkedRun marks size first → first < block * size → ⊥
no_run_below marks size block first some none run l =
    none (first / size) ((div-lt_iff_lt-mul some).1 l) (at_block marks size first some run)

-- and a run's block is one of those that fit
pub no_run : (marks : List Bool) (size block first : ℕ) → 0 < size → NoneBelow marks size block → length marks / size ≤ block → IsMarkedRun marks size first → ⊥
no_run marks size block first some none all run =
    let e = block_of size first some run.aligned in
    let fits : first / size + 1 ≤ length marks / size = (le-div_iff_mul-le some).1 (omega (arith, run.inside)) in
    none (first / size) (omega arith) (at_block marks size first some run)

pub inside_block : (size block len : ℕ) → 0 < size → block < len / size → block * size + size ≤ len
inside_block size block len some l = let h : (block + 1) * size ≤ len = (le-div_iff_mul-le some).0 (omega arith) in omega arith

pub aligned_block : (size block : ℕ) → 0 < size → block * size % size ≡ 0
aligned_block size block some = grind arith
