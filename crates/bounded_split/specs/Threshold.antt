-- The threshold of a policy.
use Rattle.std.specs.Prelude.{ℕ}
use denote.Param.Members.{Mut}
use Rattle.bounded_split.specs.declared.loads.Load.{Load}
use Rattle.bounded_split.specs.declared.loads.Verdict.{Verdict}
use Rattle.bounded_split.specs.declared.policies.Policy.{Policy}

-- the number of hits above which a policy has an entry split
abbrev pub threshold_of : {X : Type 0} {F : X → Type 0} {calls : Mut ((x : X) × F x) (Load × Unit {0}) Verdict} → Policy X F calls → ℕ
threshold_of policy = policy.threshold
