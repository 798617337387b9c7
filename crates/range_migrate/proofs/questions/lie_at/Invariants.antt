use Rattle.std.proofs.Common.{◌≡◌, true}
use Rattle.mind_base.specs.Cover.{all_below}
use Rattle.range_translate.specs.Place.{physical_place}
use Rattle.range_migrate.specs.Plan.{block_page, is_at}
use Rattle.range_migrate.proofs.questions.lie_at.Given as goal

abbrev pub invariant-loop-n : goal.invariant-loop-n
invariant-loop-n l = all_below (λ i. is_at l.memory (physical_place l.table.homes l.table.outliers (block_page l.range i))) l.n ≡ true
