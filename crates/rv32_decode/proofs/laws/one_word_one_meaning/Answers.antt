-- The laws are those of the instruction of a word and of the word of an instruction.
use Rattle.std.proofs.Common.{sym, ◌∙◌}
use Rattle.std.proofs.lemmas.Option.{same_Some}
use Rattle.rv32_decode.specs.Instr.{word_of}
use Rattle.rv32_decode.proofs.Rows.{spelled-instr_of}
use Rattle.rv32_decode.proofs.Spelled.{word_of-spelled, spelled-fits, word_of-below, word_of-row}
use Rattle.rv32_decode.proofs.laws.one_word_one_meaning.Goals as goal

pub returns-clause-meaning : goal.returns-clause-meaning
returns-clause-meaning c = λ w i j s t. same_Some i j (sym (spelled-instr_of w i s) ∙ spelled-instr_of w j t)

pub returns-clause-word : goal.returns-clause-word
returns-clause-word c = λ w v i below_w below_v s t. sym (word_of-spelled w i below_w s) ∙ word_of-spelled v i below_v t

pub returns-clause-fits : goal.returns-clause-fits
returns-clause-fits c = λ w i below s. spelled-fits w i below s

pub returns-clause-each : goal.returns-clause-each
returns-clause-each c = λ i fits. (word_of i, word_of-below i fits, word_of-row i fits)
