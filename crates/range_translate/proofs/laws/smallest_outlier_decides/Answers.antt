use Rattle.range_translate.proofs.SmallestLaw.{moved, at_home}
use Rattle.range_translate.proofs.laws.smallest_outlier_decides.Goals as goal

pub returns-clause-moved : goal.returns-clause-moved
returns-clause-moved c = moved

pub returns-clause-at_home : goal.returns-clause-at_home
returns-clause-at_home c = at_home
