use Rattle.std.proofs.Common.{◌≡◌, ◌^◌, true, sym}
use Rattle.protect_table.specs.Block.{lies_apart, block_view}
use Rattle.protect_table.proofs.Halving.{first_in-apart}
use Rattle.protect_table.proofs.blocks.Block.+first.Goals as goal

pub returns-then-is_apart-clause-first : goal.returns-then-is_apart-clause-first
returns-then-is_apart-clause-first t c =
    let e : lies_apart (2 ^ c.args.log) c.args.from c.args.to ≡ true = cc in
    sym (first_in-apart c.args.sought (block_view c.args.self.now) c.args.log c.args.from c.args.to e)
