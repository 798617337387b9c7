use Rattle.std.proofs.Common.{◌≡◌, ◌-◌, true, ap, sym, ◌∙◌, arith}
use Rattle.invalidate_multicast.specs.Blades.{has_blade}
use Rattle.invalidate_multicast.proofs.BladeLemmas.{without-gone, without-other, without-taken}
use Rattle.invalidate_multicast.proofs.Sets.{has_blade-below}
use Rattle.invalidate_multicast.proofs.casts.without.Goals as goal

pub only-requires : goal.only-requires
only-requires c =
    has_blade-below 8 c.args.blades c.args.blade (omega (arith, c.ranges.blades)) (sym c.is_among.ensures ∙ c.if-is_among.true)

pub returns-then-is_among-clause-gone : goal.returns-then-is_among-clause-gone
returns-then-is_among-clause-gone c =
    let has : has_blade c.args.blades c.args.blade ≡ true = sym c.is_among.ensures ∙ c.if-is_among.true in
    ap (λ w. has_blade (c.args.blades - w) c.args.blade) c.only.ensures ∙ ap (λ w. has_blade w c.args.blade) (without-taken c.args.blades c.args.blade has) ∙ without-gone c.args.blades c.args.blade

pub returns-then-is_among-clause-others : goal.returns-then-is_among-clause-others
returns-then-is_among-clause-others c other ne =
    let has : has_blade c.args.blades c.args.blade ≡ true = sym c.is_among.ensures ∙ c.if-is_among.true in
    ap (λ w. has_blade (c.args.blades - w) other) c.only.ensures ∙ ap (λ w. has_blade w other) (without-taken c.args.blades c.args.blade has) ∙ without-other c.args.blades c.args.blade other ne
