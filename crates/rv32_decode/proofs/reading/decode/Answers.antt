-- The answer is the instruction of the word, and so has what the laws say of it.
use Rattle.std.proofs.Common.{ap, ◌∙◌, arith}
use Rattle.rv32_decode.specs.Instr.{instr_of, row_of}
use Rattle.rv32_decode.proofs.Meaning.{row_answer, none_answer, fits_answer, again_answer}
use Rattle.rv32_decode.proofs.reading.decode.Goals as goal

pub returns-clause-row : goal.returns-clause-row
unfolding instr_of
returns-clause-row c = row_answer c.args.word c.row.result (c.row.ensures ∙ ap (λ opcode. row_of opcode c.args.word) c.bits.ensures.value)

pub returns-clause-none : goal.returns-clause-none
unfolding instr_of
returns-clause-none c = none_answer c.args.word c.row.result (c.row.ensures ∙ ap (λ opcode. row_of opcode c.args.word) c.bits.ensures.value)

pub returns-clause-fits : goal.returns-clause-fits
unfolding instr_of
returns-clause-fits c = fits_answer c.args.word c.row.result (omega arith) (c.row.ensures ∙ ap (λ opcode. row_of opcode c.args.word) c.bits.ensures.value)

pub returns-clause-again : goal.returns-clause-again
unfolding instr_of
returns-clause-again c = again_answer c.args.word c.row.result (omega arith) (c.row.ensures ∙ ap (λ opcode. row_of opcode c.args.word) c.bits.ensures.value)
