use Rattle.protect_table.proofs.Tables.{cover_of-kept}
use Rattle.protect_table.proofs.protects.Protect.cover.Goals as goal

pub returns-clause-cover : goal.returns-clause-cover
returns-clause-cover c = rw (← c.self.view_is) (cover_of-kept _ _ _ c.self.invariant)
