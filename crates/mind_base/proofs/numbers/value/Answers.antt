use Rattle.std.proofs.Common.{◌≡◌, ◌+◌, take, arith, below_more, refl}
use Rattle.std.specs.Str.Parse.{digits_value}
use Rattle.std.proofs.lemmas.Int.Digits.{digits_value_more}
use Rattle.mind_base.proofs.Digits.{passes}
use Rattle.mind_base.proofs.numbers.value.Goals as goal

pub returns-then-next-from : goal.returns-then-next-from
returns-then-next-from c =
    let more = digits_value_more c.args.radix c.args.digits.now c.loop-i.i (omega arith) in
    let next : c.longer-next.result ≡ digits_value c.args.radix (take (c.loop-i.i + 1) c.args.digits.now) =
    rw (more, c.longer-next.ensures, c.digit.ensures, ← c.loop-i.invariant.so_far) refl in
    passes c.args.radix c.args.from c.args.digits.now c.args.limit c.loop-i.i (omega arith) (omega arith) (omega arith) c.loop-i.invariant.fronts

pub loop-i-preserved : goal.loop-i-preserved
loop-i-preserved c =
    let more = digits_value_more c.args.radix c.args.digits.now c.loop-i.i (omega arith) in
    let next : c.longer-next.result ≡ digits_value c.args.radix (take (c.loop-i.i + 1) c.args.digits.now) =
    rw (more, c.longer-next.ensures, c.digit.ensures, ← c.loop-i.invariant.so_far) refl in
    record {
      so_far = next;
      within = omega arith;
      fronts = below_more _ _ c.loop-i.invariant.fronts (omega arith);
    }
