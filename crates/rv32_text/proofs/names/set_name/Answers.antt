use Rattle.rv32_text.proofs.names.set_name.Goals as goal

pub returns : goal.returns
returns c = c.name_at.ensures
