-- A policy, and what is kept of its closure.
use Rattle.std.specs.Prelude.{◌≡◌, ℕ, ◌<◌, ◌≤◌, ◌^◌}
use Rattle.bounded_split.specs.Verdict.{verdict_of}
use Rattle.bounded_split.specs.declared.loads.Load.{Load}
use Rattle.bounded_split.specs.declared.loads.Verdict.{Verdict}

-- the closure may be called on every load that an entry can have, and answers with the policy's verdict
pub record JudgesLoads (may : Load → Type 0) (answers : Load → Verdict → Type 0) (threshold : ℕ) : Type 0 where
  pub callable : (load : Load) → load.log ≤ 9 → load.hits < 2 ^ 32 → may load
  pub agrees : (load : Load) (verdict : Verdict) → load.log ≤ 9 → load.hits < 2 ^ 32 → answers load verdict → verdict ≡ verdict_of threshold load
