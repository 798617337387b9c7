use Rattle.std.proofs.Common.{◌≡◌, replicate, map}
use Rattle.mind_base.specs.declared.commands.Perm.TheVariants.{No}
use Rattle.protect_table.specs.Block.{block_view, whole}
use Rattle.protect_table.proofs.protects.Protect.new.Given as goal

abbrev pub invariant-loop : goal.invariant-loop
invariant-loop l = map block_view l.domains.items ≡ replicate l.counter (whole No)
