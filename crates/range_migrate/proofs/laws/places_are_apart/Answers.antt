use Rattle.range_migrate.proofs.PlacesApart.{apart}
use Rattle.range_migrate.proofs.laws.places_are_apart.Goals as goal

pub returns : goal.returns
returns c = record { apart = λ table pools a b place valid runs ea eb. apart table.homes table.outliers pools a b place runs ea eb }
