use Rattle.toml.specs.View.{table_view}
use Rattle.rack_file.proofs.FitMaps.{top-fit}
use Rattle.rack_file.proofs.racks.rack_of.Goals as goal

pub returns-clause-fit : goal.returns-clause-fit
returns-clause-fit c = top-fit (table_view c.in_ok-document.document) c.in_ok-plan.plan c.in_ok-plan.ensures
