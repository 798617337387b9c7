use Rattle.std.proofs.Common.{◌≡◌, ◌-◌, ◌^◌, true, false, sym, ap, ◌∙◌, arith}
use Rattle.protect_table.specs.Block.{lies_apart, lies_inside, block_view, block_set, lower_of, upper_of, tally_of}
use Rattle.protect_table.proofs.Halving.{set_in-apart, set_in-inside, set_in-split, tally_of-joined, IsHalved-set, blocks_in-le, pow_most}
use Rattle.protect_table.proofs.blocks.Block.+tally_with.Goals as goal

pub returns-then-is_apart-clause-tally : goal.returns-then-is_apart-clause-tally
returns-then-is_apart-clause-tally t c =
    let e : lies_apart (2 ^ c.args.log) c.args.from c.args.to ≡ true = cc in
    rw (set_in-apart c.args.log (block_view c.args.self.now) c.args.from c.args.to c.args.perm e) c.tally.ensures.tally

pub returns-then-is_inside-clause-tally : goal.returns-then-is_inside-clause-tally
returns-then-is_inside-clause-tally t c =
    let e : lies_apart (2 ^ c.args.log) c.args.from c.args.to ≡ false = cc in
    let i : lies_inside (2 ^ c.args.log) c.args.from c.args.to ≡ true = cc in
    rw (set_in-inside c.args.log (block_view c.args.self.now) c.args.from c.args.to c.args.perm e i) c.of.ensures

pub joined-requires : goal.joined-requires
joined-requires t c = omega (arith, pow_most (c.args.log - 1) (omega arith))

pub returns-clause-tally : goal.returns-clause-tally
returns-clause-tally t c =
    let block = block_view c.args.self.now in
    let e : lies_apart (2 ^ c.args.log) c.args.from c.args.to ≡ false = cc in
    let i : lies_inside (2 ^ c.args.log) c.args.from c.args.to ≡ false = cc in
    let s = set_in-split c.args.log block c.args.from c.args.to c.args.perm e i in
    let low = block_set (c.args.log - 1) (lower_of block) c.args.from c.args.to c.args.perm in
    let high = block_set (c.args.log - 1) (upper_of block) (c.args.from - 2 ^ (c.args.log - 1)) (c.args.to - 2 ^ (c.args.log - 1)) c.args.perm in
    let a : c.tally_with-lower.result ≡ tally_of low = cc in
    let b : c.tally_with-upper.result ≡ tally_of high = cc in
    c.joined.ensures ∙ rw (a, b) (sym (tally_of-joined low high) ∙ ap tally_of (sym s))

pub returns-clause-most : goal.returns-clause-most
returns-clause-most t c =
    let block = block_view c.args.self.now in
    let e = returns-clause-tally t c in
    let h = IsHalved-set c.args.log block c.args.from c.args.to c.args.perm c.requires.halved in
    omega (arith, ap (λ x. x.blocks) e, blocks_in-le (block_set c.args.log block c.args.from c.args.to c.args.perm) c.args.log h)
