use Rattle.protect_table.proofs.blocks.Block.+with.Given as goal

abbrev pub decreases-with : goal.decreases-with
decreases-with l = l.log
