use Rattle.std.proofs.Common.{◌≡◌, get_or, map, ap, arith}
use Rattle.mind_base.specs.Cover.{cover_of}
use Rattle.mind_base.specs.declared.commands.Perm.TheVariants.{No}
use Rattle.protect_table.specs.Block.{block_view, whole}
use Rattle.protect_table.specs.Protect.{changed, permission_among}
use Rattle.protect_table.proofs.Kept.{view_of-read, cover-read}
use Rattle.protect_table.proofs.Tables.{CoverStep}
use Rattle.protect_table.proofs.protects.Protect.cover_with.Goals as goal
use Rattle.protect_table.proofs.protects.Protect.cover_with.Goals.{After-index-domain, After-tally-before, After-tally_with-after}

read : (c : After-index-domain) → block_view c.index-domain.result.now ≡ get_or (map block_view c.self.inside.domains.items) c.span.inside.domain (whole No)
read c = view_of-read c.self.inside.domains.items c.span.inside.domain c.index-domain.result.now c.self.invariant.count c.span.invariant.0 c.index-domain.ensures

step : (c : After-tally_with-after) → CoverStep c.self.inside.cover c.tally-before.result.blocks c.tally_with-after.result.blocks (cover_of (changed (permission_among (map block_view c.self.inside.domains.items)) (record { domain = c.span.inside.domain; base = c.span.inside.base; pages = c.span.inside.pages }) c.args.perm))
step c =
    cover-read c.self.inside.slots c.self.inside.cover c.self.inside.domains.items (record { domain = c.span.inside.domain; base = c.span.inside.base; pages = c.span.inside.pages }) c.args.perm c.index-domain.result.now c.self.invariant c.span.invariant.0 c.span.invariant.2 c.index-domain.ensures
    c.tally-before.result.blocks c.tally_with-after.result.blocks (ap (λ x. x.blocks) c.tally-before.ensures.tally) (ap (λ x. x.blocks) c.tally_with-after.ensures.tally)

pub tally-before-requires-clause-halved : goal.tally-before-requires-clause-halved
tally-before-requires-clause-halved c = rw (read c) (c.self.invariant.halved c.span.inside.domain)

pub tally_with-after-requires-clause-halved : goal.tally_with-after-requires-clause-halved
tally_with-after-requires-clause-halved c =
    rw (read (goal.at.tally_with-after-requires-clause-halved c).After-index-domain) (c.self.invariant.halved c.span.inside.domain)

pub overflow_sub-result : goal.overflow_sub-result
overflow_sub-result c = (step (goal.at.overflow_sub-result c).After-tally_with-after).fewer

pub overflow_add-result : goal.overflow_add-result
overflow_add-result c = let fits = (step (goal.at.overflow_add-result c).After-tally_with-after).fits in omega (arith, fits)

pub returns : goal.returns
returns c = rw (← c.self.view_is, ← c.span.view_is) (step (goal.at.returns c).After-tally_with-after).same
