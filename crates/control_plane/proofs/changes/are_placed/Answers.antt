use Rattle.std.proofs.Common.{◌≡◌, ◌+◌, is_some, sym, ◌∙◌, ap, arith}
use Rattle.mind_base.specs.Span.{SpanView}
use Rattle.mind_base.specs.Home.{home_of}
use Rattle.protect_table.proofs.Callers.{all_below-from}
use Rattle.control_plane.proofs.Runs.{all_below-more, all_below-fails, is_some-home_of, placed_below}
use Rattle.control_plane.proofs.changes.are_placed.Goals as goal

pub loop-n-init : goal.loop-n-init
loop-n-init c = all_below-from _ 0 (λ i lt. absurd (omega arith))

pub loop-n-preserved : goal.loop-n-preserved
loop-n-preserved c =
    let here = is_some-home_of c.args.homes.now (record { domain = c.span.inside.domain; number = c.span.inside.base + c.loop-n.n }) ∙ (sym c.has_home.ensures ∙ c.if-not-has_home.false) in
    all_below-more (λ i. is_some (home_of c.args.homes.now (record { domain = c.span.inside.domain; number = c.span.inside.base + i }))) c.loop-n.n c.loop-n.invariant here

pub returns-then-not-has_home : goal.returns-then-not-has_home
returns-then-not-has_home c =
    let here = is_some-home_of c.args.homes.now (record { domain = c.span.inside.domain; number = c.span.inside.base + c.loop-n.n }) ∙ (sym c.has_home.ensures ∙ c.if-not-has_home.true) in
    let fails = all_below-fails (λ i. is_some (home_of c.args.homes.now (record { domain = c.span.inside.domain; number = c.span.inside.base + i }))) c.span.inside.pages c.loop-n.n c.loop-n-test.true here in
    rw (← c.span.view_is) (sym fails)

pub returns : goal.returns
returns c =
    let all : c.loop-n.n ≡ c.span.inside.pages = omega arith in
    let run : SpanView = record { domain = c.span.inside.domain; base = c.span.inside.base; pages = c.span.inside.pages } in
    rw (← c.span.view_is) (sym (ap (placed_below c.args.homes.now run) (sym all) ∙ c.loop-n.invariant))
