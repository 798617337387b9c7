use Rattle.std.proofs.Common.{◌≡◌, ◌+◌, ◌≤◌, ◌<◌, ℕ, take}
use Rattle.std.specs.Str.Parse.{digits_value}
use Rattle.mind_base.proofs.numbers.value.Given as goal

abbrev pub invariant-loop-i : goal.invariant-loop-i
invariant-loop-i l = record {
  so_far : l.value ≡ digits_value l.radix (take l.i l.digits);
  within : l.value ≤ l.limit;
  fronts : (k : ℕ) → k < l.i → digits_value l.radix (take (k + 1) l.digits) ≤ l.limit;
}
