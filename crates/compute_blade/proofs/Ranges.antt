-- Ranges are runs of pages: shown at each of the ten sizes.
use Rattle.std.proofs.Common.{◌≡◌, ℕ, zero, suc, ◌+◌, ◌*◌, ◌<◌, ◌≤◌, ◌%◌, ◌^◌, arith}

-- a run of as many pages as a range has
pub record IsRun (base log : ℕ) : Type 0 where
  pub size : 1 * 2 ^ log % 4294967296 ≡ 2 ^ log
  pub some : 0 < 1 * 2 ^ log % 4294967296
  pub end : base + 1 * 2 ^ log % 4294967296 ≤ 1048576

pub range_is_run : (log base : ℕ) → log ≤ 9 → base < 1048576 → base % 2 ^ log ≡ 0 → IsRun base log
range_is_run zero base le below aligned = record { size = omega arith; some = omega arith; end = omega arith }
range_is_run (suc zero) base le below aligned = record { size = omega arith; some = omega arith; end = omega arith }
range_is_run (suc (suc zero)) base le below aligned = record { size = omega arith; some = omega arith; end = omega arith }
range_is_run (suc (suc (suc zero))) base le below aligned = record { size = omega arith; some = omega arith; end = omega arith }
range_is_run (suc (suc (suc (suc zero)))) base le below aligned = record { size = omega arith; some = omega arith; end = omega arith }
range_is_run (suc (suc (suc (suc (suc zero))))) base le below aligned = record { size = omega arith; some = omega arith; end = omega arith }
range_is_run (suc (suc (suc (suc (suc (suc zero)))))) base le below aligned = record { size = omega arith; some = omega arith; end = omega arith }
range_is_run (suc (suc (suc (suc (suc (suc (suc zero))))))) base le below aligned = record { size = omega arith; some = omega arith; end = omega arith }
range_is_run (suc (suc (suc (suc (suc (suc (suc (suc zero)))))))) base le below aligned = record { size = omega arith; some = omega arith; end = omega arith }
range_is_run (suc (suc (suc (suc (suc (suc (suc (suc (suc zero))))))))) base le below aligned = record { size = omega arith; some = omega arith; end = omega arith }
range_is_run (suc (suc (suc (suc (suc (suc (suc (suc (suc (suc log)))))))))) base le below aligned = absurd (omega arith)
