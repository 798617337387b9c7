use Rattle.protect_table.proofs.Finding.{FirstPage-like, sought-some, some-sought}
use Rattle.protect_table.proofs.protects.Protect.first_with.Goals as goal

pub returns : goal.returns
returns c = FirstPage-like _ _ (λ page. sought-some _) (λ page. some-sought _) _ _ c.first.ensures
