use Rattle.std.proofs.Common.{arith}
use Rattle.mind_top.proofs.Forms.{wrong-length, asked-of-two, asked-of-four}
use Rattle.mind_top.proofs.words.asked_of.Goals as goal

pub returns-in-len1-clause-asked : goal.returns-in-len1-clause-asked
returns-in-len1-clause-asked c = wrong-length c.args.words.now (λ e. omega (arith, e, c.in-len1.len_below)) (λ e. omega (arith, e, c.in-len1.len_below)) (λ e. omega (arith, e, c.in-len1.len_below))

pub returns-in-len2-clause-asked : goal.returns-in-len2-clause-asked
returns-in-len2-clause-asked c =
    asked-of-two c.args.words.now c.word-item.result c.name-item.result c.as_str.result.now c.as_str-in-len2.result.now c.asked_by_two.result
    c.in-len2.len_at_least c.in-len2.len_below c.word-item.is c.name-item.is
    c.as_str.ensures.value c.as_str-in-len2.ensures.value c.asked_by_two.ensures.asked

pub returns-in-len5-up-clause-asked : goal.returns-in-len5-up-clause-asked
returns-in-len5-up-clause-asked c = wrong-length c.args.words.now (λ e. omega (arith, e, c.in-len5-up.len_at_least)) (λ e. omega (arith, e, c.in-len5-up.len_at_least)) (λ e. omega (arith, e, c.in-len5-up.len_at_least))

pub returns-in-len4-clause-asked : goal.returns-in-len4-clause-asked
returns-in-len4-clause-asked c =
    asked-of-four c.args.words.now c.word-item-then-words-lt5.result c.rack-item-then-words-lt5.result c.third-item.result c.fourth-item.result
    c.as_str-in-len4.result.now c.as_str-in-len4-2.result.now c.as_str-in-len4-3.result.now c.as_str-in-len4-4.result.now c.asked_by_four.result
    c.in-len4.len_at_least c.in-len4.len_below c.word-item-then-words-lt5.is c.rack-item-then-words-lt5.is c.third-item.is c.fourth-item.is
    c.as_str-in-len4.ensures.value c.as_str-in-len4-2.ensures.value c.as_str-in-len4-3.ensures.value c.as_str-in-len4-4.ensures.value c.asked_by_four.ensures.asked
