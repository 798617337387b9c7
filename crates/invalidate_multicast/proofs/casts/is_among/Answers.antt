use Rattle.std.proofs.Common.{◌≡◌, ◌<◌, sym, ◌∙◌, nat_lt, false, arith}
use Rattle.std.proofs.lemmas.Bool.{false_from_ne_true, ltb-true}
use Rattle.invalidate_multicast.proofs.BladeLemmas.{has-blade_above}
use Rattle.invalidate_multicast.proofs.casts.is_among.Goals as goal

pub returns-else-blade-lt8 : goal.returns-else-blade-lt8
returns-else-blade-lt8 c =
    let no : nat_lt c.args.blade 8 ≡ false = false_from_ne_true _ (λ t. let lt : c.args.blade < 8 = ltb-true _ _ t in absurd (omega arith)) in
    no ∙ sym (has-blade_above c.args.blades c.args.blade (omega arith) c.if-blade-lt8.false)
