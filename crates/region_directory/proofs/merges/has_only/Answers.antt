use Rattle.std.proofs.Common.{◌≤◌, ◌^◌, arith}
use Rattle.std.proofs.Math.Pow.{pow_mono}
use Rattle.std.proofs.lemmas.Bool.Decides.{nat_tests}
use Rattle.region_directory.proofs.merges.has_only.Goals as goal

pub returns-else-owner-lt8 : goal.returns-else-owner-lt8
returns-else-owner-lt8 c =
    let large : 2 ^ 8 ≤ 2 ^ c.args.owner = pow_mono c.if-owner-lt8.false in
    grind (arith, nat_tests)
