use Rattle.rv32_text.specs.Name.{number_named}
use Rattle.rv32_text.proofs.names.number_named.Goals as goal

pub returns-clause-register : goal.returns-clause-register
unfolding number_named
returns-clause-register c = c.place_among.ensures.place
