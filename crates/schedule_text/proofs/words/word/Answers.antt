use Rattle.std.proofs.Common.{◌≡◌, ◌+◌, ℕ, [], ◌∙◌, get_or, ap, arith}
use Rattle.schedule_text.specs.Word.{words_of}
use Rattle.schedule_text.proofs.Cuts.{IsSplit, first_word, later_word}
use Rattle.schedule_text.proofs.words.word.Goals as goal

pub loop-preserved : goal.loop-preserved
loop-preserved c =
    let words = words_of c.args.line.now in
    let split : IsSplit c.loop.rest.now c.split_word.result.0.now c.split_word.result.1.now =
    record { some = c.split_word.ensures.some; none = c.split_word.ensures.none; last = c.split_word.ensures.last } in
    record {
      same = λ k.
          let e : c.loop.counter + (1 + k) ≡ c.loop.counter + 1 + k = omega arith in
          later_word _ _ _ split k ∙ c.loop.invariant.same (1 + k) ∙ ap (λ (n : ℕ). get_or words n []) e;
      short = omega arith;
    }

pub returns-clause-word : goal.returns-clause-word
returns-clause-word c =
    let words = words_of c.args.line.now in
    let split : IsSplit c.loop.rest.now c.split_word-2.result.0.now c.split_word-2.result.1.now =
    record { some = c.split_word-2.ensures.some; none = c.split_word-2.ensures.none; last = c.split_word-2.ensures.last } in
    let e : c.loop.counter + 0 ≡ c.args.index = omega arith in
    first_word _ _ _ split ∙ c.loop.invariant.same 0 ∙ ap (λ (n : ℕ). get_or words n []) e
