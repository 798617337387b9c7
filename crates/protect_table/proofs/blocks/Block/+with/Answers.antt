use Rattle.std.proofs.Common.{◌≡◌, ◌-◌, ◌^◌, true, false, refl}
use Rattle.protect_table.specs.Block.{lies_apart, lies_inside, block_view, block_set, lower_of, upper_of}
use Rattle.protect_table.proofs.Halving.{set_in-apart, set_in-inside, set_in-split}
use Rattle.protect_table.proofs.blocks.Block.+with.Goals as goal

pub returns-then-is_apart : goal.returns-then-is_apart
returns-then-is_apart t c =
    let e : lies_apart (2 ^ c.args.log) c.args.from c.args.to ≡ true = cc in
    rw (set_in-apart c.args.log (block_view c.args.self.now) c.args.from c.args.to c.args.perm e) c.copy.ensures

pub returns-then-is_inside : goal.returns-then-is_inside
returns-then-is_inside t c =
    let e : lies_apart (2 ^ c.args.log) c.args.from c.args.to ≡ false = cc in
    let i : lies_inside (2 ^ c.args.log) c.args.from c.args.to ≡ true = cc in
    rw (set_in-inside c.args.log (block_view c.args.self.now) c.args.from c.args.to c.args.perm e i) refl

pub returns : goal.returns
returns t c =
    let e : lies_apart (2 ^ c.args.log) c.args.from c.args.to ≡ false = cc in
    let i : lies_inside (2 ^ c.args.log) c.args.from c.args.to ≡ false = cc in
    let low = c.in_ok-lower.ensures in
    let a : block_view c.in_ok-lower.lower ≡ block_set (c.args.log - 1) (lower_of (block_view c.args.self.now)) c.args.from c.args.to c.args.perm = cc in
    let high = c.in_ok-upper.ensures in
    let b : block_view c.in_ok-upper.upper ≡ block_set (c.args.log - 1) (upper_of (block_view c.args.self.now)) (c.args.from - 2 ^ (c.args.log - 1)) (c.args.to - 2 ^ (c.args.log - 1)) c.args.perm = cc in
    rw (set_in-split c.args.log (block_view c.args.self.now) c.args.from c.args.to c.args.perm e i, ← a, ← b) c.joined.ensures
