use Rattle.std.proofs.Common.{◌∙◌}
use Rattle.protect_table.specs.Protect.{permission_at}
use Rattle.control_plane.proofs.Callers.{is_none-by, unmapped-found}
use Rattle.rack_file.proofs.placing.is_unmapped.Goals as goal

pub returns : goal.returns
returns c =
    is_none-by c.first_with.result c.is_none.result c.is_none.ensures ∙ unmapped-found (permission_at c.args.mapped.now) c.args.span.now c.first_with.result c.first_with.ensures
