use Rattle.std.proofs.Common.{ℕ, ◌∙◌, ap}
use Rattle.mind_base.specs.Span.{SpanView}
use Rattle.compute_blade.specs.Pages.{run_of_block}
use Rattle.compute_blade.proofs.Ranges.{range_is_run}
use Rattle.compute_blade.proofs.blades.pages.span_of.Goals as goal

pub invariant_of-result : goal.invariant_of-result
invariant_of-result c =
    let run = range_is_run c.range.inside.log c.range.inside.base c.range.invariant.2 c.range.invariant.1 c.range.invariant.3 in
    (c.range.invariant.0, run.some, run.end)

pub returns : goal.returns
returns c =
    let run = range_is_run c.range.inside.log c.range.inside.base c.range.invariant.2 c.range.invariant.1 c.range.invariant.3 in
    let sized : ℕ → SpanView = λ n. record { domain = c.range.inside.domain; base = c.range.inside.base; pages = n } in
    ap sized run.size ∙ ap run_of_block c.range.view_is
