use Rattle.std.proofs.Common.{Some, None}
use Rattle.protect_table.specs.Block.{block_view}
use Rattle.protect_table.proofs.Finding.{first-found}
use Rattle.protect_table.proofs.protects.Protect.first.Goals as goal

pub returns-in_err-number : goal.returns-in_err-number
returns-in_err-number c =
    rw (c.from_residual.ensures, ← c.span.view_is)
    (first-found c.args.self.now.domains c.args.sought (record { domain = c.span.inside.domain; base = c.span.inside.base; pages = c.span.inside.pages }) c.span.invariant.2 (block_view c.domain.result.now) c.domain.ensures.block c.domain.ensures.halved None c.in_err-number.ensures.first)

pub returns : goal.returns
returns c =
    rw (← c.span.view_is)
    (first-found c.args.self.now.domains c.args.sought (record { domain = c.span.inside.domain; base = c.span.inside.base; pages = c.span.inside.pages }) c.span.invariant.2 (block_view c.domain.result.now) c.domain.ensures.block c.domain.ensures.halved (Some c.in_ok-number.number) c.in_ok-number.ensures.first)
