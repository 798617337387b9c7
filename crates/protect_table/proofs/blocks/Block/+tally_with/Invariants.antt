use Rattle.protect_table.proofs.blocks.Block.+tally_with.Given as goal

abbrev pub decreases-tally_with : goal.decreases-tally_with
decreases-tally_with l = l.log
