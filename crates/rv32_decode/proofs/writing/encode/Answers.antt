-- The word is the instruction's own, which spells it.
use Rattle.rv32_decode.proofs.Meaning.{row-word_of, instr_of-word_of}
use Rattle.rv32_decode.proofs.writing.encode.Goals as goal

pub returns-clause-row : goal.returns-clause-row
returns-clause-row c = row-word_of c.word.result c.args.instr.now c.requires c.word.ensures

pub returns-clause-again : goal.returns-clause-again
returns-clause-again c = instr_of-word_of c.word.result c.args.instr.now c.requires c.word.ensures
