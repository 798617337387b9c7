use Rattle.protect_table.proofs.Finding.{FirstPage-like, sought-none, none-sought}
use Rattle.protect_table.proofs.protects.Protect.first_without.Goals as goal

pub returns : goal.returns
returns c = FirstPage-like _ _ (λ page. sought-none _) (λ page. none-sought _) _ _ c.first.ensures
