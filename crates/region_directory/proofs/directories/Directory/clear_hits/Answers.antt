use Rattle.std.proofs.Common.{refl, arith}
use Rattle.region_directory.specs.Entry.{with_hits}
use Rattle.region_directory.proofs.OrderLemmas.{IsDirectory-map}
use Rattle.region_directory.proofs.directories.Directory.clear_hits.Goals as goal

pub returns-clause-valid : goal.returns-clause-valid
returns-clause-valid c =
    IsDirectory-map c.self.inside.slots c.self.inside.most (with_hits 0) c.self.inside.entries.items c.reset_hits.new.entries.items (λ e. refl) c.self.invariant.1 c.reset_hits.ensures.entries

pub invariant_of-self : goal.invariant_of-self
invariant_of-self c =
    (omega (arith, c.self.invariant.0, c.reset_hits.ensures.capacity), returns-clause-valid c)
