use Rattle.std.proofs.Common.{◌≡◌, ◌+◌, drop}
use Rattle.std.specs.List.{prefix_len}
use Rattle.std.specs.Char.{is_digit}
use Rattle.mind_base.proofs.numbers.digits_at_front.Given as goal

abbrev pub invariant-loop-i : goal.invariant-loop-i
invariant-loop-i l = prefix_len (λ b. is_digit b l.radix) l.text ≡ l.i + prefix_len (λ b. is_digit b l.radix) (drop l.i l.text)
