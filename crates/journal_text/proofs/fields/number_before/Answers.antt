use Rattle.std.proofs.Common.{◌∙◌, take, arith, ap, sym, subst, List, ℕ}
use Rattle.std.specs.Str.Parse.{AllDigits}
use Rattle.std.proofs.lemmas.Fmt.{decimal_injective}
use Rattle.std.proofs.lemmas.List.Sums.{prefix_len-le-length}
use Rattle.std.specs.Char.{is_digit}
use Rattle.journal_text.proofs.Decimals.{ends, front_digits, tail_is}
use Rattle.journal_text.proofs.fields.number_before.Goals as goal

pub returns-then-count-text-clause-only : goal.returns-then-count-text-clause-only
returns-then-count-text-clause-only c n rest below e =
    let parts = ends c.args.text.now c.digit_count-count.result n c.args.end rest (omega arith) c.requires.end c.digit_count-count.ensures e in omega (arith, parts.inside)

pub bounds-text-count : goal.bounds-text-count
bounds-text-count c = omega (arith, prefix_len-le-length (λ b. is_digit b 10) c.args.text.now)

pub returns-then-text-count-clause-only : goal.returns-then-text-count-clause-only
returns-then-text-count-clause-only c n rest below e =
    let parts = ends c.args.text.now c.digit_count-count.result n c.args.end rest (omega arith) c.requires.end c.digit_count-count.ensures e in c.if-text-count.true parts.byte

pub split_at-requires : goal.split_at-requires
split_at-requires c = omega (arith, prefix_len-le-length (λ b. is_digit b 10) c.args.text.now)

pub value_of-requires-clause-digits : goal.value_of-requires-clause-digits
value_of-requires-clause-digits c =
    let P : List ℕ → Type 0 = λ ds. AllDigits 10 ds in
    subst P (sym (c.split_at.ensures.front ∙ ap (λ n. take n c.args.text.now) c.digit_count-count.ensures)) (front_digits c.args.text.now)

pub returns-in-None-clause-only : goal.returns-in-None-clause-only
returns-in-None-clause-only c n rest below e =
    let parts = ends c.args.text.now c.digit_count-count.result n c.args.end rest (omega arith) c.requires.end c.digit_count-count.ensures e in
    c.in-None.ensures n below (c.split_at.ensures.front ∙ parts.front)

pub returns-in-Some-clause-only : goal.returns-in-Some-clause-only
returns-in-Some-clause-only c n rest below e =
    let parts = ends c.args.text.now c.digit_count-count.result n c.args.end rest (omega arith) c.requires.end c.digit_count-count.ensures e in (
      decimal_injective c.in-Some.value n (omega (arith, c.in-Some.ensures.0)) (omega arith) (sym c.in-Some.ensures.1 ∙ c.split_at.ensures.front ∙ parts.front),
      tail_is c.split_at.result.1.now c.args.end rest (c.split_at.ensures.back ∙ parts.behind),
    )
