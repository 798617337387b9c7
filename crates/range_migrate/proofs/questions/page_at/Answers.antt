use Rattle.std.proofs.Common.{◌≡◌, ℕ, ◌+◌, ◌<◌, ◌≤◌, ◌%◌, ◌^◌, sym, ap, subst, arith}
use Rattle.mind_base.specs.Range.{RangeView}
use Rattle.mind_base.proofs.Callers.{up_to_nine}
use Rattle.range_migrate.proofs.questions.page_at.Goals as goal

abbrev IsInside : ℕ → Type 0
IsInside l = (b n : ℕ) → b < 1048576 → b % 2 ^ l ≡ 0 → n < 2 ^ l → b + n < 1048576

inside : (l : ℕ) → l ≤ 9 → IsInside l
inside = up_to_nine IsInside (λ b n p q r. omega arith) (λ b n p q r. omega arith) (λ b n p q r. omega arith) (λ b n p q r. omega arith) (λ b n p q r. omega arith)
    (λ b n p q r. omega arith) (λ b n p q r. omega arith) (λ b n p q r. omega arith) (λ b n p q r. omega arith) (λ b n p q r. omega arith)

pub invariant_of-result : goal.invariant_of-result
invariant_of-result c =
    let r = c.range.inside in
    let i = c.range.invariant in
    let log : r.log ≡ c.args.range.now.log = ap (λ (v : RangeView). v.log) c.range.view_is in
    (i.0, inside r.log i.2 r.base c.args.n i.1 i.3 (subst (λ k. c.args.n < 2 ^ k) (sym log) c.requires))
