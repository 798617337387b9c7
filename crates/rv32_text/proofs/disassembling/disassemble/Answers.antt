use Rattle.std.proofs.Common.{length, ap, ◌∙◌, arith}
use Rattle.std.proofs.lemmas.List.{length-drop}
use Rattle.rv32_text.specs.Image.{image_words, assembled}
use Rattle.rv32_text.specs.Written.{disassembled}
use Rattle.rv32_text.proofs.Steps.{writes_on, written_whole}
use Rattle.rv32_text.proofs.TextAgain.{assembled_again, text_within}
use Rattle.rv32_text.proofs.disassembling.disassemble.Goals as goal

pub loop-rest-preserved : goal.loop-rest-preserved
loop-rest-preserved c = record {
  same = writes_on c.loop-rest.out.items c.put_line.new.out.items c.first_word-word.result.0 (image_words c.first_word-word.result.1.now) (image_words c.loop-rest.rest.now) _ c.in_ok-put_line.ensures c.first_word-word.ensures.words c.loop-rest.invariant.same;
  whole = omega (arith, ap length c.first_word-word.ensures.rest, length-drop 4 c.loop-rest.rest.now);
}

pub returns-clause-text : goal.returns-clause-text
returns-clause-text c =
    written_whole c.loop-rest.out.items c.loop-rest.rest.now _ (omega arith) c.loop-rest.invariant.same

pub returns-clause-again : goal.returns-clause-again
returns-clause-again c =
    let text = written_whole c.loop-rest.out.items c.loop-rest.rest.now (disassembled (image_words c.args.image.now)) (omega arith) c.loop-rest.invariant.same in
    λ some few. ap assembled text ∙ assembled_again c.args.image.now (λ i. omega (arith, c.type_inv.image i)) c.requires some few

pub returns-clause-short : goal.returns-clause-short
returns-clause-short c =
    let text = written_whole c.loop-rest.out.items c.loop-rest.rest.now (disassembled (image_words c.args.image.now)) (omega arith) c.loop-rest.invariant.same in
    omega (arith, ap length text, text_within c.args.image.now (λ i. omega (arith, c.type_inv.image i)) c.requires)
