use Rattle.std.proofs.Common.{◌∷◌, Ok}
use Rattle.range_migrate.specs.Migrates.{Migrate}
use Rattle.range_migrate_rows.proofs.tests.outcome_of.Goals as goal

pub returns-in-Ok : goal.returns-in-Ok
returns-in-Ok c =
    let latest : Migrate = record { range = c.args.row.now.range; memory = c.args.row.now.memory; result = Ok c.in-Ok.field-0 } in
    record { reached = (latest ∷ c.requires.reached.0, c.in-Ok.ensures.reached c.requires.reached.0 c.requires.reached.1) }
