use Rattle.protect_table.proofs.Kept.{view_of-read}
use Rattle.protect_table.proofs.protects.Protect.domain.Goals as goal

pub returns-clause-halved : goal.returns-clause-halved
returns-clause-halved c =
    let e = view_of-read c.self.inside.domains.items c.args.number c.index.result.now c.self.invariant.count c.requires c.index.ensures in
    rw e (c.self.invariant.halved c.args.number)
