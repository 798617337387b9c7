use Rattle.std.proofs.Common.{◌<◌, length, subst, sym, arith}
use Rattle.region_directory.specs.Directory.{DirectoryView}
use Rattle.region_directory.proofs.OrderLemmas.{IsDirectory-remove}
use Rattle.region_directory.proofs.directories.Directory.remove.Goals as goal

pub returns-clause-valid : goal.returns-clause-valid
returns-clause-valid c =
    let within : c.args.i < length c.self.inside.entries.items = subst (λ (v : DirectoryView). c.args.i < length v.entries) (sym c.self.view_is) c.requires in
    IsDirectory-remove c.self.inside.slots c.self.inside.most c.args.i c.self.inside.entries.items c.remove.new.self.items within c.self.invariant.1 c.remove.ensures.items

pub invariant_of-self : goal.invariant_of-self
invariant_of-self c =
    (omega (arith, c.self.invariant.0, c.remove.ensures.capacity), returns-clause-valid c)
