use Rattle.std.proofs.Common.{◌-◌, arith}
use Rattle.protect_table.proofs.Halving.{pow_most}
use Rattle.protect_table.proofs.blocks.Block.+tally.Goals as goal

pub overflow_add-result : goal.overflow_add-result
overflow_add-result t c = omega (arith, pow_most (c.args.log - 1) (omega arith))
