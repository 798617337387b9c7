use Rattle.std.proofs.Common.{refl, ◌∙◌, ap}
use Rattle.mind_base.specs.Permission.{permission_of}
use Rattle.protect_table.proofs.Callers.{cover_of-fits}
use Rattle.rack_file.proofs.placing.homes_table.Goals as goal

pub of-requires : goal.of-requires
of-requires c = cover_of-fits _ _ refl

pub returns-in-Ok-clause-permissions : goal.returns-in-Ok-clause-permissions
returns-in-Ok-clause-permissions c = c.in-Ok.ensures.maps ∙ ap permission_of (c.as_slice.ensures.value ∙ c.in_ok-entries.ensures)
