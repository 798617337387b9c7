use Rattle.mind_top.proofs.Journalled.{journal-checked}
use Rattle.mind_top.proofs.laws.what_is_journalled_is_checked.Goals as goal

pub returns : goal.returns
returns c = λ files paths journal left text done held short within. journal-checked files paths journal left text done held short within
