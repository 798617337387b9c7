use Rattle.rv32_text.specs.Name.{set_of}
use Rattle.rv32_text.proofs.names.set_named.Goals as goal

pub returns-clause-set : goal.returns-clause-set
unfolding set_of
returns-clause-set c = c.place_among.ensures.place
