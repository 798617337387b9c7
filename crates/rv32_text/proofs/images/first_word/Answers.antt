use Rattle.std.proofs.lemmas.List.{take_rest}
use Rattle.rv32_text.proofs.Steps.{first_word_is}
use Rattle.rv32_text.proofs.images.first_word.Goals as goal

pub returns-clause-words : goal.returns-clause-words
returns-clause-words c =
    rw (take_rest c.args.image.now 4) (first_word_is c.args.image.now c.from_le_bytes-word.result c.requires c.from_le_bytes-word.ensures)
