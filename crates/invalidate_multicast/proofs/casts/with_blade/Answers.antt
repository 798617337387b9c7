use Rattle.std.proofs.Common.{sym, ◌∙◌, ◌≡◌, ◌+◌, ◌^◌, ◌<◌, false, arith}
use Rattle.invalidate_multicast.specs.Blades.{has_blade}
use Rattle.invalidate_multicast.proofs.Sets.{with-fits}
use Rattle.invalidate_multicast.proofs.casts.with_blade.Goals as goal

pub overflow_add-result : goal.overflow_add-result
overflow_add-result c =
    let off : has_blade c.args.blades c.args.blade ≡ false = sym c.is_among.ensures ∙ c.if-is_among.false in
    let fits : c.args.blades + 2 ^ c.args.blade < 2 ^ 8 = with-fits 8 c.args.blades c.args.blade (omega (arith, c.ranges.blades)) c.requires off in
    omega (arith, fits)
