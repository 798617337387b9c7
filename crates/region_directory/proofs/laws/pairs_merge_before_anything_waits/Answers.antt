use Rattle.region_directory.proofs.PairLemmas.{unpaired, merges, waits}
use Rattle.region_directory.proofs.laws.pairs_merge_before_anything_waits.Goals as goal

pub returns-clause-unpaired : goal.returns-clause-unpaired
returns-clause-unpaired c = unpaired

pub returns-clause-merges : goal.returns-clause-merges
returns-clause-merges c = merges

pub returns-clause-waits : goal.returns-clause-waits
returns-clause-waits c = waits
