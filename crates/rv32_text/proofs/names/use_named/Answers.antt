use Rattle.rv32_text.specs.Name.{use_named}
use Rattle.rv32_text.proofs.names.use_named.Goals as goal

pub returns-clause-register : goal.returns-clause-register
unfolding use_named
returns-clause-register c = c.place_among.ensures.place
