use Rattle.std.proofs.Common.{arith}
use Rattle.region_directory.proofs.directories.Directory.len.Goals as goal

pub overflow_cast-result : goal.overflow_cast-result
overflow_cast-result c =
    omega (arith, c.self.invariant.1.slots_bound, c.self.invariant.1.fits, c.self.inside.entries.ok.0)
