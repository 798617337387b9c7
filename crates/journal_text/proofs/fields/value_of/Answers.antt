use Rattle.std.proofs.Common.{◌≡◌, ◌+◌, ◌*◌, ◌<◌, ◌∙◌, length, take, arith, rules, ap, sym, subst, ℕ}
use Rattle.std.specs.Str.Parse.{digits_value}
use Rattle.std.proofs.lemmas.Int.Digits.{digits_value_more}
use Rattle.std.proofs.lemmas.List.{take_all}
use Rattle.std.specs.Fmt.{decimal}
use Rattle.journal_text.proofs.Decimals.{none_empty, none_padded, none_large, first_alone, some_value}
use Rattle.journal_text.proofs.fields.value_of.Goals as goal

pub returns-then-is_empty : goal.returns-then-is_empty
returns-then-is_empty c n below e = none_empty n c.args.digits.now (omega arith) (search rules) e

pub returns-then-digits-gt1 : goal.returns-then-digits-gt1
returns-then-digits-gt1 c n below e = none_padded n c.args.digits.now (omega arith) c.if-digits-eq48.true c.if-digits-gt1.true e

pub returns-then-value-below : goal.returns-then-value-below
returns-then-value-below c n below e =
    let more : digits_value 10 (take (c.loop-byte.byte-index + 1) c.args.digits.now) ≡ c.loop-byte.value * 10 + c.digit.result = search (rules, digits_value_more 10 c.args.digits.now c.loop-byte.byte-index (omega arith)) in
    none_large n c.args.digits.now (c.loop-byte.byte-index + 1) c.args.below (omega arith) below (omega (arith, more)) e

pub loop-byte-preserved : goal.loop-byte-preserved
loop-byte-preserved c = record {
  value = omega (arith, digits_value_more 10 c.args.digits.now c.loop-byte.byte-index c.loop-byte-test.true);
  small = omega arith;
}

pub returns : goal.returns
returns c =
    let ds = c.args.digits.now in
    let value : c.loop-byte.value ≡ digits_value 10 ds = c.loop-byte.invariant.value ∙ ap (digits_value 10) (take_all c.loop-byte.byte-index ds c.loop-byte-test.false) in
    let some : 0 < length ds = search rules in
    let P : ℕ → Type 0 = λ n. ds ≡ decimal n in (
      c.loop-byte.invariant.small,
      subst P (sym value) (some_value ds c.requires.digits some (first_alone ds c.else-digits-eq48.either some) (omega (arith, value))),
    )
