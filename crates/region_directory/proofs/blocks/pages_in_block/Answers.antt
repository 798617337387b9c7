use Rattle.region_directory.proofs.BlockLemmas.{pages-bound}
use Rattle.region_directory.proofs.blocks.pages_in_block.Goals as goal

pub returns-clause-bound : goal.returns-clause-bound
returns-clause-bound c = pages-bound _ c.range.invariant.2
