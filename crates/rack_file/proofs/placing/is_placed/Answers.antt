use Rattle.std.proofs.Common.{◌+◌, not, is_some, sym, ◌∙◌, ap, arith}
use Rattle.mind_base.specs.Home.{home_of}
use Rattle.protect_table.proofs.Callers.{all_below-from}
use Rattle.control_plane.proofs.Callers.{all_below-more, all_below-fails}
use Rattle.rack_file.proofs.placing.is_placed.Goals as goal

pub loop-n-init : goal.loop-n-init
loop-n-init c = all_below-from _ 0 (λ i lt. absurd (omega arith))

pub loop-n-preserved : goal.loop-n-preserved
loop-n-preserved c =
    let here = sym (ap is_some c.home.ensures) ∙ (c.is_none.ensures ∙ ap not c.if-is_none.false) in
    all_below-more (λ i. is_some (home_of c.args.homes.now.homes (record { domain = c.span.inside.domain; number = c.span.inside.base + i }))) c.loop-n.n c.loop-n.invariant here

pub returns-then-is_none : goal.returns-then-is_none
returns-then-is_none c =
    let here = sym (ap is_some c.home.ensures) ∙ (c.is_none.ensures ∙ ap not c.if-is_none.true) in
    let fails = all_below-fails (λ i. is_some (home_of c.args.homes.now.homes (record { domain = c.span.inside.domain; number = c.span.inside.base + i }))) c.span.inside.pages c.loop-n.n c.loop-n-test.true here in
    rw (← c.span.view_is) (sym fails)
